use Rattle.std.proofs.Common.{◌≡◌, ◌+◌, ◌-◌, ◌≤◌, drop, length}
use Rattle.mddocument_link_targets.specs.Spans.{size_from}
use Rattle.mdhtml_document.proofs.spans.size_in.Given as goal

abbrev pub invariant-loop-next : goal.invariant-loop-next
invariant-loop-next l = record {
  same : l.next + size_from l.depth (drop l.next l.events) ≡ size_from 0 l.events;
  few : l.depth ≤ l.next;
  room : l.next ≤ length l.events;
}

abbrev pub decreases-loop-next : goal.decreases-loop-next
decreases-loop-next l = length l.events - l.next
