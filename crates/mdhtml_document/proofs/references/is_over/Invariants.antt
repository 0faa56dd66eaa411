use Rattle.std.proofs.Common.{◌≡◌, ◌+◌, ◌≤◌, length}
use Rattle.mdhtml_document.specs.Frames.{size_by}
use Rattle.mdhtml_document.specs.Walks.{references_from}
use Rattle.mdhtml_document.proofs.references.is_over.Given as goal

abbrev pub invariant-events : goal.invariant-events
invariant-events l = record {
  same : l.sum + references_from l.known.bytes.now (size_by l.known.events.now l.known.definitions.now) 0 l.rest
      ≡ references_from l.known.bytes.now (size_by l.known.events.now l.known.definitions.now) 0 l.known.events.now;
  few : l.sum ≤ l.limit;
}

abbrev pub decreases-events : goal.decreases-events
decreases-events l = length l.rest
