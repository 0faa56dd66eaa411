use Rattle.std.proofs.Common.{arith}
use Rattle.mdblock_lines.proofs.html.next_in_tag.Goals as goal

pub returns-then-begins_white-clause-turns : goal.returns-then-begins_white-clause-turns
returns-then-begins_white-clause-turns g c =
    omega (arith, c.unindented-more.ensures.turns, c.unindented-more.ensures.len, c.unindented-more.ensures.within, c.behind_attribute.ensures.turns)
