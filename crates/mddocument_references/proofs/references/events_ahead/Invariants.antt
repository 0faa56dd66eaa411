use Rattle.std.proofs.Common.{◌≡◌, ◌+◌, ◌-◌, ◌≤◌, drop, length}
use Rattle.mddocument_references.specs.References.{ahead}
use Rattle.mddocument_references.proofs.references.events_ahead.Given as goal

abbrev pub invariant-loop-next : goal.invariant-loop-next
invariant-loop-next l = record {
  same : l.next + ahead l.on l.bytes (drop l.next l.events) ≡ ahead l.on l.bytes l.events;
  room : l.next ≤ length l.events;
}

abbrev pub decreases-loop-next : goal.decreases-loop-next
decreases-loop-next l = length l.events - l.next
