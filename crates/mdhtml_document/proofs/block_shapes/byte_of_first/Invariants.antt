use Rattle.std.proofs.Common.{◌≡◌, drop}
use Rattle.mdhtml_document.specs.Html.{byte_of_first}
use Rattle.mdhtml_document.proofs.block_shapes.byte_of_first.Given as goal

abbrev pub invariant-loop-event : goal.invariant-loop-event
invariant-loop-event l = byte_of_first l.bytes l.name (drop l.event-index l.events) ≡ byte_of_first l.bytes l.name l.events
