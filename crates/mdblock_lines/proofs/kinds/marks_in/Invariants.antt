use Rattle.std.proofs.Common.{length, ◌-◌, ◌+◌, ◌≡◌, ◌≤◌, drop}
use Rattle.std.specs.Prelude.{◌==◌, filter}
use Rattle.mdblock_lines.proofs.kinds.marks_in.Given as goal

-- the marks so far, and those that are left
abbrev pub invariant-loop-next : goal.invariant-loop-next
invariant-loop-next g l = (l.marks + length (filter (λ b. b == l.mark) (drop l.next l.r)) ≡ length (filter (λ b. b == l.mark) l.r)) × (l.marks ≤ l.next) × (l.next ≤ length l.r) × (l.turns ≤ l.fn.turns + l.next)

abbrev pub decreases-loop-next : goal.decreases-loop-next
decreases-loop-next g l = length l.r - l.next
