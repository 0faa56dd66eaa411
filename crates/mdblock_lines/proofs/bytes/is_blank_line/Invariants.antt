use Rattle.std.proofs.Common.{length, ◌-◌, ◌+◌, ◌≡◌, ◌≤◌, drop}
use Rattle.mdblock_leaf_blocks.specs.LineWords.{is_blank_line}
use Rattle.mdblock_lines.proofs.bytes.is_blank_line.Given as goal

-- what is left says whether all is white space
abbrev pub invariant-loop-next : goal.invariant-loop-next
invariant-loop-next g l = (is_blank_line (drop l.next l.t) ≡ is_blank_line l.t) × (l.next ≤ length l.t) × (l.turns ≤ l.fn.turns + l.next)

abbrev pub decreases-loop-next : goal.decreases-loop-next
decreases-loop-next g l = length l.t - l.next
