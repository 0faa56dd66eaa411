use Rattle.std.proofs.Common.{length, ◌-◌, ◌+◌, ◌≡◌, ◌≤◌, drop}
use Rattle.std.specs.Prelude.{◌==◌, not}
use Rattle.std.specs.List.{list_all}
use Rattle.mdblock_lines.proofs.kinds.has_no_grave.Given as goal

-- what is left says of all
abbrev pub invariant-loop-next : goal.invariant-loop-next
invariant-loop-next g l = (list_all (λ b. not (b == 96)) (drop l.next l.t) ≡ list_all (λ b. not (b == 96)) l.t) × (l.next ≤ length l.t) × (l.turns ≤ l.fn.turns + l.next)

abbrev pub decreases-loop-next : goal.decreases-loop-next
decreases-loop-next g l = length l.t - l.next
