use Rattle.std.proofs.Common.{◌≡◌, length}
use Rattle.mdhtml_document.specs.Html.{is_trailed}
use Rattle.mdhtml_document.proofs.tables.is_trailed.Given as goal

abbrev pub invariant-events : goal.invariant-events
invariant-events l = is_trailed l.rest ≡ is_trailed l.inner

abbrev pub decreases-events : goal.decreases-events
decreases-events l = length l.rest
