use Rattle.std.proofs.Common.{arith}
use Rattle.mdblock_lines.proofs.html.closes_tag.Goals as goal

pub returns-else-begins_with-2-clause-turns : goal.returns-else-begins_with-2-clause-turns
returns-else-begins_with-2-clause-turns g c = omega (arith, c.unindented-more.ensures.turns, c.unindented-more.ensures.within)
