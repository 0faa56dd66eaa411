use Rattle.std.proofs.Common.{◌≡◌, ◌-◌, ◌≤◌, ◌++◌, drop, length}
use Rattle.mdhtml_depth.specs.Depth.{within}
use Rattle.mdhtml_depth.proofs.spans.kept_of.Given as goal

-- what was left, and what comes
abbrev pub invariant-loop-next : goal.invariant-loop-next
invariant-loop-next l = record {
  same : l.out.items ++ within l.limit l.opened (drop l.next l.events) ≡ within l.limit 0 l.events;
  few : l.opened ≤ l.next;
  room : l.next ≤ length l.events;
}

abbrev pub decreases-loop-next : goal.decreases-loop-next
decreases-loop-next l = length l.events - l.next
