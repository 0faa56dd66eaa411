-- Inner: the section in which a place is looked up, for private functions.
use Rattle.std.specs.Prelude.{◌≡◌, ℕ, ◌+◌, ◌≤◌, ◌<◌, ◌^◌, List, length}
use Rattle.mddocument_editing.specs.declared.lookup.Found.{Found}
use Rattle.mddocument_editing.specs.Lookups.{line_at, start_of}

-- The byte is in the section, or behind all, and that is the last
pub record IsByteIn (sections : List (List ℕ)) (byte : ℕ) (found : Found) : Type 0 where
  pub within : found.section < length sections
  pub bytes : found.bytes ≡ start_of sections found.section
  pub lines : found.lines ≡ line_at sections found.section
  pub start : found.bytes ≤ byte
  pub few : found.lines ≤ found.bytes
  pub end : found.section + 1 < length sections → byte < start_of sections (found.section + 1)

-- The line starts in the section, or is behind all, and that is the last
pub record IsLineIn (sections : List (List ℕ)) (line : ℕ) (found : Found) : Type 0 where
  pub within : found.section < length sections
  pub bytes : found.bytes ≡ start_of sections found.section
  pub lines : found.lines ≡ line_at sections found.section
  pub start : found.lines ≤ line
  pub short : start_of sections (found.section + 1) < 2 ^ 64
  pub end : found.section + 1 < length sections → line < line_at sections (found.section + 1)
