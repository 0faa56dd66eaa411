use Rattle.std.proofs.Common.{◌≡◌, drop}
use Rattle.mdhtml_document.specs.Html.{is_led}
use Rattle.mdhtml_document.proofs.tables.is_led.Given as goal

abbrev pub invariant-loop-event : goal.invariant-loop-event
invariant-loop-event l = is_led (drop l.event-index l.inner) ≡ is_led l.inner
