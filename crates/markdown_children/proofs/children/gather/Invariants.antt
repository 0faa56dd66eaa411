use Rattle.markdown_children.proofs.Prelude.{given_by, SoFar}
use Rattle.markdown_children.proofs.children.gather.Given as goal

abbrev pub invariant-loop-index : goal.invariant-loop-index
invariant-loop-index g l =
    SoFar (given_by l.fn.parse_state.bytes.now l.fn.parse_state.options.now) (g.M.Machine.rules l.fn.parse_state.machine.now) l.fn.filter l.events l.index l.map l.acc l.found
