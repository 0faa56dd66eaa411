use Rattle.markdown_children.proofs.Prelude.{◌≡◌, ◌-◌, length, Some, Name, start_at, pieces_behind}
use Rattle.markdown_children.proofs.ChildReads.Reading.{ReadsAt}
use Rattle.markdown_children.proofs.children.read_chunks.Given as goal

abbrev pub invariant-loop-next : goal.invariant-loop-next
invariant-loop-next g l =
    (start : Name) × (start_at l.events l.index ≡ Some start)
    × ReadsAt g.M.Machine.rules l.fn.parse_state.machine.now l.fn.parse_state.bytes.now l.fn.parse_state.options.now l.fn.filter l.events l.index start (pieces_behind l.events) l.at l.tokenizer l.state

abbrev pub decreases-loop-next : goal.decreases-loop-next
decreases-loop-next g l = length l.initial.events - l.at
