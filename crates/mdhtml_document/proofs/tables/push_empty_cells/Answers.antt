use Rattle.std.proofs.Common.{arith}
use Rattle.mdhtml_document.proofs.EmptyCells.{no_more, none_left}
use Rattle.mdhtml_document.proofs.tables.push_empty_cells.Goals as goal

pub returns-in-None : goal.returns-in-None
returns-in-None c = no_more c.loop-most.most c.args.is_head c.loop-most.rest.now c.loop-most.out.items _ c.in-None.ensures c.loop-most.invariant

pub returns : goal.returns
returns c = none_left c.loop-most.most c.args.is_head c.loop-most.rest.now c.loop-most.out.items _ (omega (arith, c.loop-most-test.false)) c.loop-most.invariant
