use Rattle.std.proofs.Common.{length, ◌-◌, ◌≡◌, ◌≤◌, ◌++◌, drop}
use Rattle.mdinline_labels.specs.Labels.{collapsed, collapsed_behind}
use Rattle.mdinline_labels.proofs.collapsed.Given as goal

-- what was written, and what the rest gives, are all
abbrev pub invariant-loop-next : goal.invariant-loop-next
invariant-loop-next l =
    (l.out.items ++ collapsed_behind l.begun l.apart (drop l.next l.bytes) ≡ collapsed l.bytes)
    × (l.next ≤ length l.bytes)

abbrev pub decreases-loop-next : goal.decreases-loop-next
decreases-loop-next l = length l.bytes - l.next
