-- The labels of the footnote definitions of a document: by them calls are read, also those of its parts.
use Rattle.std.specs.Prelude.{◌≡◌, ℕ, ◌+◌, Bool, true, List, drop, take, Some}
use Rattle.std.specs.List.{flat_map}
use Rattle.markdown_base.specs.declared.configuration.ParseOptions.{ParseOptions}
use Rattle.markdown_tokenizer.specs.Text.{IsDocument}
use Rattle.mdblock_definitions.specs.Labelled.{is_one_of}
use Rattle.mdblock_text_lines.specs.DocumentSections.{document_skeleton}
use Rattle.mddocument.specs.DocumentEvents.{is_defined_in}
use Rattle.mddocument.specs.Documents.{document}
use Rattle.mddocument_parts.specs.BothDocuments.{events_by, is_rest}
use Rattle.mddocument_parts.specs.Sections.{are_sections_by, document_of}
use Rattle.mdgfm_documents.specs.Documents.{gfm_events}
use Rattle.mdgfm_footnotes.specs.CallEvents.{labels_in}
use Rattle.mdgfm_footnotes.specs.Calls.{label_at}
use Rattle.mdgfm_sections.specs.Parts.{gfm_events_by}

-- The labels of the footnote definitions of bytes read as a document, as they are written: those of its skeleton, so that no label of a link matters
abbrev pub notes_written : ParseOptions → List ℕ → List (List ℕ)
notes_written options bytes = labels_in bytes (document_skeleton (document options bytes))

-- a footnote definition of the document has this label
abbrev pub is_noted_in : ParseOptions → (bytes : List ℕ) → (label : List ℕ) → Bool
is_noted_in options bytes = is_one_of (notes_written options bytes)

-- They are those of its events, whatever labels of links are defined
abbrev pub NotesOfEvents : Type 0
NotesOfEvents = (options : ParseOptions) (defined : List ℕ → Bool) (bytes : List ℕ) → IsDocument (document options bytes)
    → labels_in bytes (events_by options defined bytes) ≡ notes_written options bytes

-- So by them, and by the labels of its links, a document's events with checks, calls and literals are read
abbrev pub NotesGiveEvents : Type 0
NotesGiveEvents = (options : ParseOptions) (bytes : List ℕ) → IsDocument (document options bytes)
    → gfm_events options bytes ≡ gfm_events_by options (is_defined_in (document options bytes)) (is_noted_in options bytes) bytes

-- The labels of a document's sections are those of the document
abbrev pub NotesOfSections : Type 0
NotesOfSections = (options : ParseOptions) (sections : List (List ℕ)) → let bytes = document_of sections in IsDocument (document options bytes) → are_sections_by (is_rest options) sections ≡ true
    → notes_written options bytes ≡ flat_map (notes_written options) sections

-- If two sets of labels agree on those of all that may be calls in the bytes, events are the same by both
abbrev pub NotesDecide : Type 0
NotesDecide = (options : ParseOptions) (defined noted others : List ℕ → Bool) (bytes : List ℕ)
    → ((k n : ℕ) → label_at (drop k bytes) ≡ Some n → let label = take n (drop (k + 2) bytes) in others label ≡ noted label)
    → gfm_events_by options defined others bytes ≡ gfm_events_by options defined noted bytes
