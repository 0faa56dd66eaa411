use Rattle.std.proofs.Common.{length, ◌+◌, ◌≡◌, ◌≤◌, take}
use Rattle.mdconstructs_tables.specs.Breaks.{is_white}
use Rattle.mdblock_leaf_blocks.specs.LineKinds.{trimmed}
use Rattle.mdblock_tables.proofs.tables.trimmed.Given as goal

-- behind these bytes only white space comes
abbrev pub invariant-loop-size : goal.invariant-loop-size
invariant-loop-size g l = (trimmed is_white (take l.size l.t) ≡ trimmed is_white l.t) × (l.size ≤ length l.t) × (l.turns + l.size ≤ l.fn.turns + length l.t)

abbrev pub decreases-loop-size : goal.decreases-loop-size
decreases-loop-size g l = l.size
