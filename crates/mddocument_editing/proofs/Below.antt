-- The laws that this crate cites from below.
use Rattle.mddocument_editing.proofs.Prelude.{refl, sym, virtual, Constructs, DocumentLabelsDecide, DocumentFirstLineTells, IsDocument, ParseOptions, are_sections_by, document, document_of, events_of_sections, gfm_events, gfm_events_by, is_rest, true, ◌≡◌, ◌∙◌, ℕ, List, []}
use Rattle.mdblock_definitions.specs.Skeleton.{written_labels}
use Rattle.mdblock_definitions.proofs.PlainLetters.{open-not-blank}
pub use Rattle.mddocument_parts.proofs.BothDocuments.{rest-begins}
use Rattle.mddocument_parts.proofs.DocumentAsked.{document-labels-decide}
use Rattle.mddocument_parts.proofs.DocumentBytes.{document-first-line-tells}
use Rattle.mddocument_parts.proofs.DocumentLabels.{labels-of-both}
use Rattle.mddocument_parts.specs.DocumentLabels.{LabelsOfBoth}
use Rattle.mddocument.specs.DocumentEvents.{is_defined_in}
use Rattle.mddocument_laws.proofs.DocumentNames.{defined-if-on}
use Rattle.mdgfm_sections.proofs.Decide.{notes-decide}
use Rattle.mdgfm_sections.proofs.NotesOfEvents.{notes-give-events}
use Rattle.mdgfm_sections.proofs.NotesOfSections.{notes-of-sections}
use Rattle.mdgfm_sections.proofs.Sections.{gfm-of-sections}
use Rattle.mdgfm_sections.specs.Notes.{NotesDecide, NotesOfSections, is_noted_in}

pub first-tells : DocumentFirstLineTells
first-tells = document-first-line-tells

pub labels-both : LabelsOfBoth
labels-both = labels-of-both open-not-blank

-- an empty document has no labels
pub labels-none : (on : Constructs) (t : ℕ) → written_labels on (virtual t []) ≡ []
labels-none on t = refl

pub labels-decide : DocumentLabelsDecide
labels-decide = document-labels-decide

-- the events of sections, one behind the other, are those of the document
pub sections-give : (options : ParseOptions) (sections : List (List ℕ)) → IsDocument (document options (document_of sections)) → are_sections_by (is_rest options) sections ≡ true
    → let bytes = document_of sections in events_of_sections (gfm_events_by options (is_defined_in (document options bytes)) (is_noted_in options bytes)) sections ≡ gfm_events options bytes
sections-give options sections is cut =
    let bytes = document_of sections in
    sym (gfm-of-sections options (is_defined_in (document options bytes)) (is_noted_in options bytes) (defined-if-on (document options bytes)) sections is cut) ∙ sym (notes-give-events options bytes is)

pub notes-of-all : NotesOfSections
notes-of-all = notes-of-sections

pub calls-decide : NotesDecide
calls-decide = notes-decide
