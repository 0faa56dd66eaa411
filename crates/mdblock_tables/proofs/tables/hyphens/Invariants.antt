use Rattle.std.proofs.Common.{length, ◌-◌, ◌+◌, ◌≡◌, ◌≤◌, drop}
use Rattle.mdblock_leaf_blocks.specs.LineKinds.{run}
use Rattle.mdblock_tables.proofs.tables.hyphens.Given as goal

-- what was passed, and what is left of the hyphens
abbrev pub invariant-loop-next : goal.invariant-loop-next
invariant-loop-next g l = (l.next + run 45 (drop l.next l.t) ≡ run 45 l.t) × (l.next ≤ length l.t) × (l.turns ≤ l.fn.turns + l.next)

abbrev pub decreases-loop-next : goal.decreases-loop-next
decreases-loop-next g l = length l.t - l.next
