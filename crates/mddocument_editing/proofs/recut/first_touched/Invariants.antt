use Rattle.mddocument_editing.proofs.Prelude.{◌≡◌, ◌≤◌, length, take, document_of, bytes_of_sections}
use Rattle.mddocument_editing.proofs.recut.first_touched.Given as goal

abbrev pub invariant-loop-index : goal.invariant-loop-index
invariant-loop-index l = record {
  start : l.start ≡ length (document_of (take l.index (bytes_of_sections l.sections)));
  before : l.start ≤ l.byte;
  within : l.index ≤ length l.sections;
}

abbrev pub decreases-loop-index : goal.decreases-loop-index
decreases-loop-index l = l.index
