-- A document that can be edited, as contracts see it: how it is read, and its sections.
use Rattle.std.specs.Prelude.{◌≡◌, ℕ, Bool, List, length, map, take, drop}
use Rattle.markdown_base.specs.declared.configuration.ParseOptions.{ParseOptions}
use Rattle.markdown_base.specs.declared.event.Event.{Event}
use Rattle.markdown_base.specs.Virtual.{IsWithinLimit}
use Rattle.markdown_tokenizer.specs.Text.{IsDocument}
use Rattle.mddocument.specs.DocumentEvents.{is_defined_in}
use Rattle.mddocument.specs.Documents.{document}
use Rattle.mdgfm_documents.specs.Documents.{gfm_events}
use Rattle.mdgfm_sections.specs.Notes.{is_noted_in}
use Rattle.mdgfm_sections.specs.Parts.{gfm_events_by}
use Rattle.mddocument_parts.specs.Moved.{line_endings, moved_event}
use Rattle.mddocument_parts.specs.Sections.{document_of, events_of_sections}
use Rattle.mddocument_editing.specs.FirstRest.{AreSectionsOf}

pub record Divided : Type 0 where
  pub options : ParseOptions
  pub sections : List (List ℕ)

-- the bytes of the document
abbrev pub bytes_of : Divided → List ℕ
bytes_of d = document_of d.sections

-- Its bytes are within the limit, and its sections are these, cut at each rest
pub record IsDivided (d : Divided) : Type 0 where
  pub limit : IsWithinLimit d.options.tab_size (bytes_of d)
  pub sections : AreSectionsOf d.options (bytes_of d) d.sections

-- So two documents with the same bytes, read with the same options, are the same: they have the same sections
abbrev pub DividedIsUnique : Type 0
DividedIsUnique = (d e : Divided) → IsDivided d → IsDivided e → d.options ≡ e.options → bytes_of d ≡ bytes_of e → d ≡ e

-- a label is defined in the document
abbrev pub is_label_of : Divided → List ℕ → Bool
is_label_of d = is_defined_in (document d.options (bytes_of d))

-- so is a label of a footnote
abbrev pub is_note_of : Divided → List ℕ → Bool
is_note_of d = is_noted_in d.options (bytes_of d)

-- the events of a section as those of a document of its own, by the labels of the whole document and by its footnotes
abbrev pub section_events : Divided → (section : List ℕ) → List Event
section_events d section = gfm_events_by d.options (is_label_of d) (is_note_of d) section

-- the events of sections, one behind the other
abbrev pub events_of : Divided → (sections : List (List ℕ)) → List Event
events_of d sections = events_of_sections (section_events d) sections

-- the events of these of its sections, as they stand in those of the document: moved by what is in front of them
abbrev pub events_between : Divided → (from to : ℕ) → List Event
events_between d from to =
    let front = document_of (take from d.sections) in
    map (moved_event (line_endings front) (length front) (length (events_of d (take from d.sections)))) (events_of d (drop from (take to d.sections)))

-- The events between section 0 and the number of sections are those of the document, if it is a possible one that is cut at each rest
abbrev pub EventsOfAllSectionsAreTheDocuments : Type 0
EventsOfAllSectionsAreTheDocuments = (d : Divided) → IsDocument (document d.options (bytes_of d)) → IsDivided d → events_between d 0 (length d.sections) ≡ gfm_events d.options (bytes_of d)
