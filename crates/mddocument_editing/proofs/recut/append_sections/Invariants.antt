use Rattle.mddocument_editing.proofs.Prelude.{◌≡◌, ◌++◌, take, document_of, bytes_of_sections}
use Rattle.mddocument_editing.proofs.recut.append_sections.Given as goal

abbrev pub invariant-loop-section : goal.invariant-loop-section
invariant-loop-section l = l.bytes.items ≡ l.initial.bytes.items ++ document_of (take l.section-index (bytes_of_sections l.sections))
