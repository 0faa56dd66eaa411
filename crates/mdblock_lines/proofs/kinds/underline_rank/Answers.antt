use Rattle.std.proofs.Common.{arith}
use Rattle.mdblock_lines.proofs.kinds.underline_rank.Goals as goal

pub returns-else-is_underline_of_marks-2-clause-turns : goal.returns-else-is_underline_of_marks-2-clause-turns
returns-else-is_underline_of_marks-2-clause-turns g c = omega (
  arith,
  c.is_far.ensures.turns,
  c.unindented-r.ensures.turns,
  c.unindented-r.ensures.len,
  c.unindented-r.ensures.within,
  c.is_underline_of_marks.ensures.turns,
  c.is_underline_of_marks-2.ensures.turns,
)
