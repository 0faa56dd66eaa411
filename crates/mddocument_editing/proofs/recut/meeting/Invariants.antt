use Rattle.mddocument_editing.proofs.Prelude.{◌≡◌, ℕ, ◌+◌, ◌<◌, ◌≤◌, ◌-◌, ◌⊎◌, length, take, document_of, items_of, bytes_of_sections}
use Rattle.mddocument_editing.proofs.recut.meeting.Given as goal

abbrev pub invariant-loop-passed : goal.invariant-loop-passed
invariant-loop-passed l = record {
  end : l.end ≡ length (document_of (take l.kept (items_of l.parts)));
  start : l.start ≡ l.size + length (document_of (take l.passed (bytes_of_sections l.sections)));
  kept : l.kept ≤ length l.parts;
  passed : l.passed ≤ length l.sections;
  apart : (some few : ℕ) → (some < l.kept) ⊎ (few < l.passed) → ¬ (length (document_of (take some (items_of l.parts))) ≡ l.size + length (document_of (take few (bytes_of_sections l.sections))));
}

abbrev pub decreases-loop-passed : goal.decreases-loop-passed
decreases-loop-passed l = (length l.parts - l.kept) + (length l.sections - l.passed)
