use Rattle.std.proofs.Common.{length, ◌-◌, ◌+◌, ◌≡◌, ◌≤◌, drop}
use Rattle.mdblock_leaf_blocks.specs.LineWords.{indent}
use Rattle.mdblock_lines.proofs.bytes.indent.Given as goal

-- what was passed, and what is left of the white space
abbrev pub invariant-loop-columns : goal.invariant-loop-columns
invariant-loop-columns g l = (l.columns + indent (drop l.columns l.t) ≡ indent l.t) × (l.columns ≤ length l.t) × (l.turns ≤ l.fn.turns + l.columns)

abbrev pub decreases-loop-columns : goal.decreases-loop-columns
decreases-loop-columns g l = length l.t - l.columns
