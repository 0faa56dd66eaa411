use Rattle.mddocument_editing.proofs.Prelude.{◌≡◌, ◌+◌, ◌<◌, ◌≤◌, length, starts_up_to}
use Rattle.mddocument_editing.proofs.positions.line_start.Given as goal

abbrev pub invariant-loop-index : goal.invariant-loop-index
invariant-loop-index l = record {
  count : length (starts_up_to l.bytes l.index) ≡ l.passed + 1;
  few : l.passed ≤ l.index;
  before : l.passed < l.line;
}
