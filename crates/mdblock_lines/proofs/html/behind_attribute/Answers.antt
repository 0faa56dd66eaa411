use Rattle.std.proofs.Common.{arith}
use Rattle.mdblock_lines.proofs.html.behind_attribute.Goals as goal

pub returns-then-begins_with-clause-turns : goal.returns-then-begins_with-clause-turns
returns-then-begins_with-clause-turns g c = omega (
  arith,
  c.behind_attribute_name-rest.ensures.turns,
  c.unindented-more.ensures.turns,
  c.unindented-more.ensures.len,
  c.unindented-more.ensures.within,
  c.behind.ensures.len,
  c.unindented.ensures.turns,
  c.unindented.ensures.len,
  c.unindented.ensures.within,
  c.behind_value.ensures.turns,
)

pub returns-clause-turns : goal.returns-clause-turns
returns-clause-turns g c = omega (arith, c.behind_attribute_name-rest.ensures.turns, c.unindented-more.ensures.turns, c.unindented-more.ensures.within)
