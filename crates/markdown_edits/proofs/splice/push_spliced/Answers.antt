use Rattle.markdown_edits.proofs.Prelude.{arith}
use Rattle.markdown_edits.proofs.Edits.Turns.{next_edit}
use Rattle.markdown_edits.proofs.splice.push_spliced.Goals as goal

pub push_moved-requires-clause-within : goal.push_moved-requires-clause-within
push_moved-requires-clause-within c = omega (arith, (next_edit c.args.additions.now c.args.edits.now c.loop-edit.edit-index _ _ c.loop-edit-test.true c.loop-edit.invariant.rest).1)

pub overflow_add-from : goal.overflow_add-from
overflow_add-from c = omega (arith, (next_edit c.args.additions.now c.args.edits.now c.loop-edit.edit-index _ _ c.loop-edit-test.true c.loop-edit.invariant.rest).1)
