use Rattle.std.proofs.Common.{◌≡◌, ◌-◌, ◌≤◌, drop, length}
use Rattle.limecove.specs.Labels.{definition_end}
use Rattle.limecove.proofs.labels.definition_end.Given as goal

abbrev pub invariant-loop-next : goal.invariant-loop-next
invariant-loop-next l = record {
  same : definition_end (drop l.next l.events) ≡ definition_end l.events;
  room : l.next ≤ length l.events;
}

abbrev pub decreases-loop-next : goal.decreases-loop-next
decreases-loop-next l = length l.events - l.next
