use Rattle.std.proofs.Common.{arith}
use Rattle.mdblock_lines.proofs.kinds.closes.Goals as goal

pub returns-then-n-fence-clause-turns : goal.returns-then-n-fence-clause-turns
returns-then-n-fence-clause-turns g c = omega (
  arith,
  c.unindented-r.ensures.turns,
  c.unindented-r.ensures.len,
  c.unindented-r.ensures.within,
  c.run-n.ensures.turns,
  c.run-n.ensures.within,
  c.is_far.ensures.turns,
  c.behind.ensures.len,
  c.is_blank_line.ensures.turns,
)

pub returns-else-n-fence-clause-turns : goal.returns-else-n-fence-clause-turns
returns-else-n-fence-clause-turns g c = omega (
  arith,
  c.unindented-r.ensures.turns,
  c.unindented-r.ensures.len,
  c.unindented-r.ensures.within,
  c.run-n.ensures.turns,
  c.run-n.ensures.within,
  c.is_far.ensures.turns,
)
