use Rattle.mddocument_editing.proofs.Prelude.{◌<◌, take, All, document_of, bytes_of_sections}
use Rattle.mddocument_editing.proofs.moved.is_document.Given as goal

abbrev pub invariant-loop-section : goal.invariant-loop-section
invariant-loop-section l = All (λ b. b < 256) (document_of (bytes_of_sections (take l.section-index l.sections)))
