-- Inner: labels of links and of footnotes, and which of them are defined, for private functions.
use Rattle.std.specs.Prelude.{◌≡◌, ℕ, Bool, List}
use Rattle.std.specs.List.{flat_map}
use Rattle.markdown_base.specs.declared.configuration.ParseOptions.{ParseOptions}
use Rattle.markdown_base.specs.declared.event.Event.{Event}
use Rattle.markdown_base.specs.Virtual.{virtual}
use Rattle.mdblock_definitions.specs.Labelled.{is_one_of}
use Rattle.mdblock_definitions.specs.Skeleton.{written_labels}
use Rattle.mdinline_labels.specs.Defined.{defines}
use Rattle.mdgfm_sections.specs.Notes.{notes_written}
use Rattle.mdgfm_sections.specs.Parts.{gfm_events_by}
use Rattle.mddocument_editing.specs.declared.defined.Defined.{Defined}
use Rattle.mddocument_editing.specs.Divided.{Divided, is_label_of, is_note_of}

-- A label, of links or of footnotes
pub data Key : Type 0 where
  link : List ℕ → Key
  note : List ℕ → Key

abbrev pub label_of : Key → List ℕ
label_of (link label) = label
label_of (note label) = label

-- it is one of those that are defined
abbrev pub knows : Defined → Key → Bool
knows d (link label) = defines d.machine.labels label
knows d (note label) = defines d.notes label

-- it is defined in a document
abbrev pub is_key_of : Divided → Key → Bool
is_key_of d (link label) = is_label_of d label
is_key_of d (note label) = is_note_of d label

-- the events of bytes of a document, by which labels are defined in it
abbrev pub part_events : ParseOptions → (defined : Key → Bool) → List ℕ → List Event
part_events options defined bytes = gfm_events_by options (λ label. defined (link label)) (λ label. defined (note label)) bytes

-- ---- what bytes define

-- the labels of links that bytes define, read as a document
abbrev pub labels_written : ParseOptions → List ℕ → List (List ℕ)
labels_written options bytes = written_labels options.constructs (virtual options.tab_size bytes)

-- the labels that bytes define, of links or of footnotes, as a label is one of these or of those
abbrev pub written : ParseOptions → Key → List ℕ → List (List ℕ)
written options (link label) = labels_written options
written options (note label) = notes_written options

-- a label is defined in bytes of these
abbrev pub is_written : ParseOptions → List (List ℕ) → Key → Bool
is_written options sections key = is_one_of (flat_map (written options key) sections) (label_of key)

-- labels are those that bytes define
abbrev pub AreWritten : ParseOptions → Defined → List ℕ → Type 0
AreWritten options d bytes = (key : Key) → knows d key ≡ is_one_of (written options key bytes) (label_of key)
