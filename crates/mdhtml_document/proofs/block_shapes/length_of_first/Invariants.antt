use Rattle.std.proofs.Common.{◌≡◌, length}
use Rattle.mdhtml_document.specs.Html.{length_of_first}
use Rattle.mdhtml_document.proofs.block_shapes.length_of_first.Given as goal

abbrev pub invariant-events : goal.invariant-events
invariant-events l = length_of_first l.name l.rest ≡ length_of_first l.name l.events

abbrev pub decreases-events : goal.decreases-events
decreases-events l = length l.rest
