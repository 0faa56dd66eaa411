use Rattle.mddocument_editing.proofs.Prelude.{◌≡◌, ◌+◌, ◌≤◌, length, slice_index, starts_up_to}
use Rattle.mddocument_editing.proofs.positions.line_at.Given as goal

abbrev pub invariant-loop-index : goal.invariant-loop-index
invariant-loop-index l = record {
  count : length (starts_up_to l.bytes l.index) ≡ l.line + 1;
  last : slice_index (starts_up_to l.bytes l.index) l.line ≡ l.start;
  few : l.line ≤ l.index;
  within : l.start ≤ l.index;
}
