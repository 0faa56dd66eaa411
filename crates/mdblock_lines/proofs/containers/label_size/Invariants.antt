use Rattle.std.proofs.Common.{length, ◌-◌, ◌+◌, ◌≡◌, ◌≤◌, drop}
use Rattle.mdblock_lines.specs.Containers.{label_size}
use Rattle.mdblock_lines.proofs.containers.label_size.Given as goal

-- what was passed, and what is left of the label
abbrev pub invariant-loop-next : goal.invariant-loop-next
invariant-loop-next g l = (l.next + label_size (drop l.next l.r) ≡ label_size l.r) × (l.next ≤ length l.r) × (l.turns ≤ l.fn.turns + l.next)

abbrev pub decreases-loop-next : goal.decreases-loop-next
decreases-loop-next g l = length l.r - l.next
