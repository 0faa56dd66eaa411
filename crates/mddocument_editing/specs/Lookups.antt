-- Which section a byte or a line is in.
use Rattle.std.specs.Prelude.{◌≡◌, ℕ, ◌+◌, ◌/◌, ◌≤◌, ◌<◌, List, length, take, slice_get, Some, None}
use Rattle.mddocument_parts.specs.Sections.{document_of}
use Rattle.mddocument_editing.specs.PositionParts.{endings}
use Rattle.mddocument_editing.specs.Positions.{starts}

-- how often the loops of a lookup go round at most, by the number of sections: over blocks of 256 sections, and over those of one block
abbrev pub lookup_turns : (sections : ℕ) → ℕ
lookup_turns sections = sections / 256 + 256

module _ (sections : List (List ℕ)) where
  -- where a section starts
  abbrev pub start_of : (section : ℕ) → ℕ
  start_of section = length (document_of (take section sections))

  -- the line that it starts
  abbrev pub line_at : (section : ℕ) → ℕ
  line_at section = endings (document_of (take section sections))

  -- The section has the byte; it is the number of sections, if none has it
  pub record IsSectionAt (byte : ℕ) (section : ℕ) : Type 0 where
    pub within : section ≤ length sections
    pub start : start_of section ≤ byte
    pub end : section < length sections → byte < start_of (section + 1)

  -- The line starts in the section; it is the number of sections, if there is no such line
  pub record IsSectionAtLine (line : ℕ) (section : ℕ) : Type 0 where
    pub start : (byte : ℕ) → slice_get (starts (document_of sections)) line ≡ Some byte → IsSectionAt byte section
    pub none : slice_get (starts (document_of sections)) line ≡ None → section ≡ length sections
