use Rattle.std.proofs.Common.{length, ◌+◌, ◌*◌, ◌≤◌}
use Rattle.mdblock_leaf_blocks.specs.LineWords.{indent}
use Rattle.mdblock_lines.proofs.LineLemmas.{IsSameTag}
use Rattle.mdblock_lines.proofs.html.ends_open_tag.Given as goal

-- the white space that comes next may have been walked over
abbrev pub invariant-loop-more : goal.invariant-loop-more
invariant-loop-more g l = IsSameTag l.t l.rest × (l.turns + 7 * length l.rest ≤ l.fn.turns + 7 * length l.t + indent l.rest)

abbrev pub decreases-loop-more : goal.decreases-loop-more
decreases-loop-more g l = length l.rest
