use Rattle.std.proofs.Common.{◌≡◌, length}
use Rattle.mdhtml_document.specs.Frames.{from_list}
use Rattle.mdhtml_document.proofs.writer.from_list.Given as goal

abbrev pub invariant-events : goal.invariant-events
invariant-events l = from_list l.rest ≡ from_list l.events

abbrev pub decreases-events : goal.decreases-events
decreases-events l = length l.rest
