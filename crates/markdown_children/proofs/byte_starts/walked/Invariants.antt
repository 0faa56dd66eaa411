use Rattle.markdown_children.proofs.Prelude.{◌≡◌, line_at, column_at}
use Rattle.markdown_children.proofs.byte_starts.walked.Given as goal

abbrev pub invariant-loop-index : goal.invariant-loop-index
invariant-loop-index l = record {
  line : l.line ≡ line_at l.bytes l.index;
  column : l.column ≡ column_at l.t l.bytes l.index;
}
