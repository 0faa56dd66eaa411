use Rattle.std.proofs.Common.{◌≡◌, ◌++◌, length}
use Rattle.mdhtml_document.specs.Walks.{alt_from}
use Rattle.mdhtml_document.proofs.descriptions.alt_of.Given as goal

abbrev pub invariant-events : goal.invariant-events
invariant-events l = l.text.items ++ alt_from l.bytes 0 l.rest ≡ alt_from l.bytes 0 l.events

abbrev pub decreases-events : goal.decreases-events
decreases-events l = length l.rest
