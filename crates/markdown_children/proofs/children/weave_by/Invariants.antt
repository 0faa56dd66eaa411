use Rattle.markdown_children.proofs.Prelude.{◌≡◌, List, None, Edit, given_by, SoFar, written, end_of}
use Rattle.markdown_children.proofs.children.weave_by.Given as goal

-- the chains that begin so far were read, and what is written has their edits made
abbrev pub invariant-loop-index : goal.invariant-loop-index
invariant-loop-index g l =
    (es : List Edit) × SoFar (given_by l.fn.parse_state.bytes.now l.fn.parse_state.options.now) (g.M.Machine.rules l.fn.parse_state.machine.now) None l.events l.index es l.acc l.found
    × (l.woven.items ≡ written 0 es l.events) × (l.from ≡ end_of 0 es)
