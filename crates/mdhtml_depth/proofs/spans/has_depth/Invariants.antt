use Rattle.std.proofs.Common.{◌≡◌, ◌-◌, ◌≤◌, drop, length}
use Rattle.mdhtml_depth.specs.Depth.{has_depth}
use Rattle.mdhtml_depth.proofs.spans.has_depth.Given as goal

-- no span that was passed is too deep
abbrev pub invariant-loop-next : goal.invariant-loop-next
invariant-loop-next l = record {
  same : has_depth l.limit l.opened (drop l.next l.events) ≡ has_depth l.limit 0 l.events;
  few : l.opened ≤ l.next;
  room : l.next ≤ length l.events;
}

abbrev pub decreases-loop-next : goal.decreases-loop-next
decreases-loop-next l = length l.events - l.next
