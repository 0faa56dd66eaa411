-- Inner: what is kept of a document, for private functions.
use Rattle.std.specs.Prelude.{◌≡◌, ◌≤◌, ◌==◌, ℕ, Bool, true, List, map, length, take, drop, ◌++◌}
use Rattle.std.specs.List.{AllByRecursion, list_any}
use Rattle.markdown_base.specs.declared.configuration.ParseOptions.{ParseOptions}
use Rattle.markdown_base.specs.Virtual.{IsWithinLimit}
use Rattle.mddocument_editing.specs.declared.kept.Kept.{Kept}
use Rattle.mddocument_editing.specs.declared.section.Part.{Part}
use Rattle.mddocument_editing.specs.declared.section.Section.{Section}
use Rattle.mddocument_editing.specs.Divided.{Divided, IsDivided, bytes_of}
use Rattle.mddocument_editing.specs.Known.{AreWritten, Key, is_key_of, knows, part_events}
use Rattle.mddocument_editing.specs.Packed.{events_fit}
use Rattle.mddocument_editing.specs.PositionParts.{endings}
use Rattle.mddocument_editing.specs.Said.{linking}

-- the bytes of parts, and of sections
abbrev pub bytes_of_parts : List Part → List (List ℕ)
bytes_of_parts parts = map (λ part. part.bytes.items) parts

abbrev pub bytes_of_sections : List Section → List (List ℕ)
bytes_of_sections sections = map (λ section. section.part.bytes.items) sections

-- a part has the labels that it defines
abbrev pub IsLabelled : ParseOptions → Part → Type 0
IsLabelled options part = AreWritten options part.defined part.bytes.items

-- there is a `]` in bytes
abbrev pub has_end : List ℕ → Bool
has_end bytes = list_any (λ byte. byte == 93) bytes

-- the events of bytes can be packed, read by which labels are defined
abbrev pub IsPackable : ParseOptions → (defined : Key → Bool) → List ℕ → Type 0
IsPackable options defined bytes = events_fit (part_events options defined bytes) ≡ true

-- the events of each section of a document can be packed, read by the labels of the document
abbrev pub ArePackable : Divided → Type 0
ArePackable d = AllByRecursion (IsPackable d.options (is_key_of d)) d.sections

-- A section is read: by which labels are defined
pub record IsRead (options : ParseOptions) (defined : Key → Bool) (section : Section) : Type 0 where
  pub limit : IsWithinLimit options.tab_size section.part.bytes.items
  pub labels : IsLabelled options section.part
  pub lines : section.lines ≡ endings section.part.bytes.items
  pub asks : section.asks ≡ has_end section.part.bytes.items
  pub events : section.events ≡ part_events options defined section.part.bytes.items
  pub linking : section.linking ≡ linking section.part.bytes.items section.events

-- the document that is kept
abbrev pub divided_of : Kept → Divided
divided_of k = record { options = k.options; sections = bytes_of_sections k.sections.items }

-- What is kept is a document and its events
pub record IsKept (k : Kept) : Type 0 where
  pub divided : IsDivided (divided_of k)
  pub labels : (key : Key) → knows k.known key ≡ is_key_of (divided_of k) key
  pub read : AllByRecursion (IsRead k.options (knows k.known)) k.sections.items

-- What is kept is a document and its events, and the count is that of its bytes
pub record IsKeptWithSize (k : Kept) (count : ℕ) : Type 0 where
  pub kept : IsKept k
  pub size : count ≡ length (bytes_of (divided_of k))

-- the sections of what is kept, with those from one up to another replaced
abbrev pub recut_sections : Kept → (from end : ℕ) → (parts : List (List ℕ)) → List (List ℕ)
recut_sections k from end parts = let sections = bytes_of_sections k.sections.items in take from sections ++ (parts ++ drop end sections)

abbrev pub recut_document : Kept → (from end : ℕ) → (parts : List (List ℕ)) → Divided
recut_document k from end parts = record { options = k.options; sections = recut_sections k from end parts }

-- Sections are cut again: with these parts in their place, the document is cut at each rest
pub record IsRecut (k : Kept) (from end : ℕ) (parts : List (List ℕ)) : Type 0 where
  pub order : from ≤ end
  pub within : end ≤ length k.sections.items
  pub divided : IsDivided (recut_document k from end parts)
