use Rattle.std.proofs.Common.{length, ◌-◌, ◌+◌, ◌≡◌, ◌≤◌, drop}
use Rattle.mdblock_lines.specs.Containers.{digits}
use Rattle.mdblock_lines.proofs.containers.digits.Given as goal

-- what was passed, and what is left of the digits
abbrev pub invariant-loop-next : goal.invariant-loop-next
invariant-loop-next g l = (l.next + digits (drop l.next l.t) ≡ digits l.t) × (l.next ≤ length l.t) × (l.turns ≤ l.fn.turns + l.next)

abbrev pub decreases-loop-next : goal.decreases-loop-next
decreases-loop-next g l = length l.t - l.next
