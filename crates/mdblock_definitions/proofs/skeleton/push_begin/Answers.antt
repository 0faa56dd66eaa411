use Rattle.std.proofs.Common.{arith}
use Rattle.mdblock_definitions.proofs.skeleton.push_begin.Goals as goal

pub returns-in_err-push-clause-turns : goal.returns-in_err-push-clause-turns
returns-in_err-push-clause-turns g c = omega (arith, c.text_columns.ensures.turns, c.moved.ensures.turns, c.in_ok-columns.ensures.within)

pub returns-clause-turns : goal.returns-clause-turns
returns-clause-turns g c = omega (arith, c.text_columns.ensures.turns, c.moved.ensures.turns, c.in_ok-columns.ensures.within)
