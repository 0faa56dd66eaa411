use Rattle.std.proofs.Common.{◌≡◌, ◌++◌, length}
use Rattle.mdhtml_document.specs.Frames.{calls_of}
use Rattle.mdhtml_document.specs.Notes.{calls_in}
use Rattle.mdhtml_document.proofs.notes.calls_in.Given as goal

abbrev pub invariant-events : goal.invariant-events
invariant-events l = calls_of l.calls.items ++ calls_in l.bytes l.rest ≡ calls_in l.bytes l.events

abbrev pub decreases-events : goal.decreases-events
decreases-events l = length l.rest
