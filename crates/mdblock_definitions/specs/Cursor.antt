-- Where definitions are written: a place in a line of a part, and the places of the lines' text that are left from there on.
use Rattle.std.specs.Prelude.{◌≡◌, ◌≤◌, ◌<◌, ℕ, suc, ◌+◌, ◌-◌, true, List, [], ◌∷◌, ◌++◌, drop, length, take, Option, Some, None}
use Rattle.std.specs.List.{prefix_len}
use Rattle.markdown_base.specs.declared.event.Name.TheVariants as name
use Rattle.markdown_base.specs.Virtual.{IsWithinLimit, end_after, point}
use Rattle.mdblock_leaf_blocks.specs.LeafEvents.{Mark}
use Rattle.mdinline_labels.specs.declared.definitions.Definition.{Definition}
use Rattle.mdinline_labels.specs.declared.definitions.Stretch.{Stretch}
use Rattle.mdinline_labels.specs.Definitions.{end, end_of}
use Rattle.mdinline_labels.specs.Tails.{begins_with}
use Rattle.mdblock_lines.specs.Containers.{Container}
use Rattle.mdblock_lines.specs.Lines.{line_at, line_bytes, place_after}
use Rattle.mdblock_containers.specs.declared.prefixes.At.{At}
use Rattle.mdblock_containers.specs.declared.spans.RowAt.{RowAt}
use Rattle.mdblock_containers.specs.Prefixes.{going_on}
use Rattle.mdblock_containers.specs.Rows.{Row}
use Rattle.mdblock_containers.specs.Spans.{IsPlaced}
use Rattle.mdblock_containers.specs.Stretches.{AreFurther, IsOutside}
use Rattle.mdblock_definitions.specs.declared.marks.Cursor.{Cursor}
use Rattle.mdblock_definitions.specs.declared.marks.Written.{Written}
use Rattle.mdblock_definitions.specs.Definitions.{Place, gap_marks, is_byte, leaf, marked, places_in, seats_of, span, text_of}
use Rattle.mdblock_definitions.specs.Seen.{row_by}

-- a line has this column
abbrev pub HasColumn : ℕ → List RowAt → Type 0
HasColumn columns [] = ⊥
HasColumn columns (x ∷ xs) = columns ≤ x.span.size

-- how many columns are left of a line
abbrev pub columns_left : (columns : ℕ) → List RowAt → ℕ
columns_left columns [] = 0
columns_left columns (x ∷ xs) = x.span.size - columns

module _ (t : ℕ) (bytes : List ℕ) where
  -- the first of lines of a part
  pub record IsFirst (x : RowAt) (r : Row) : Type 0 where
    pub placed : IsPlaced t bytes x.span.number x.span.start x
    pub line : r.line ≡ line_at t x.span.number x.span.start (drop x.span.start bytes)
    pub columns : x.row.columns ≡ r.columns
    pub outside : IsOutside bytes x.span.start

  -- Lines of a part, behind whose first these containers are open: none begins in the further ones
  abbrev pub AreLines : (stack : List Container) → List RowAt → List Row → Type 0
  AreLines stack [] rs = ⊥
  AreLines stack (x ∷ xs) [] = ⊥
  AreLines stack (x ∷ xs) (r ∷ rs) = IsFirst x r × AreFurther t bytes stack (suc x.span.number) x.span.next xs rs

  pub record HaveLines (stack : List Container) (xs : List RowAt) : Type 0 where
    pub all : List Row
    pub are : AreLines stack xs all

  -- a place is behind so many columns of the first line
  abbrev pub IsBehind : List RowAt → At → Type 0
  IsBehind [] at = ⊥
  IsBehind (x ∷ xs) at = at.place ≡ place_after t bytes (point x.span.number 1 x.span.start 0) at.columns

  -- a place is directly behind the prefixes of the first line
  abbrev pub IsBegin : List RowAt → At → Type 0
  IsBegin [] at = ⊥
  IsBegin (x ∷ xs) at = (at.columns ≡ x.row.columns) × (at.place ≡ place_after t bytes (point x.span.number 1 x.span.start 0) at.columns)

  -- the virtual bytes of the first line
  abbrev pub IsHeld : List RowAt → List ℕ → Type 0
  IsHeld [] line = ⊥
  IsHeld (x ∷ xs) line = line ≡ line_bytes t x.span.number 1 x.span.start (drop x.span.start bytes)

  -- lines, by what the code keeps of them, the first from so many columns on
  abbrev pub row_from : (stack : List Container) → (columns : ℕ) → RowAt → Row
  row_from stack columns x =
      record (row_by t bytes x) {
        went_on = going_on (take x.row.many stack) x.span.number (line_bytes t x.span.number 1 x.span.start (drop x.span.start bytes));
        columns = columns;
      }

  abbrev pub rows_from : (stack : List Container) → List RowAt → List Row
  rows_from stack [] = []
  rows_from stack (x ∷ xs) = row_from stack x.row.columns x ∷ rows_from stack xs

  -- the places of the text of lines, from so many columns of the first on
  abbrev pub left_from : (stack : List Container) → (columns : ℕ) → List RowAt → List Place
  left_from stack columns [] = []
  left_from stack columns (x ∷ xs) = places_in bytes (row_from stack columns x ∷ rows_from stack xs)

  module _ (stack : List Container) (xs : List RowAt) where
    -- the places that are left behind a cursor
    abbrev pub left_at : Cursor → List Place
    left_at c = left_from stack c.at.columns (drop c.row xs)

    -- A cursor is in these lines
    pub record IsCursor (c : Cursor) : Type 0 where
      pub some : 0 < t
      pub limit : IsWithinLimit t bytes
      pub lines : HaveLines stack (drop c.row xs)
      pub column : HasColumn c.at.columns (drop c.row xs)
      pub place : IsBehind (drop c.row xs) c.at

    -- so many places are between two cursors
    pub record Goes (from : Cursor) (n : ℕ) (to : Cursor) : Type 0 where
      pub at : IsCursor to
      pub left : left_at to ≡ drop n (left_at from)
      pub place : to.at.place ≡ end_after from.at.place (seats_of (take n (left_at from)))

    -- A cursor is at the end of a line, and a line is behind that
    pub record IsBeforeFeed (c : Cursor) : Type 0 where
      pub cursor : IsCursor c
      pub end : columns_left c.at.columns (drop c.row xs) ≡ 0
      pub more : 0 < length (left_at c)

    -- A string of so many bytes from a cursor on is written, without a line ending at its end
    pub record EndsLines (from : Cursor) (size : ℕ) (w : Written) : Type 0 where
      pub few : w.left ≤ 1
      pub goes : Goes from (size - w.left) w.cursor
      pub whole : w.left ≡ 0 → 1 ≤ prefix_len is_byte (drop (size - 1) (left_at from))
      pub feed : w.left ≡ 1 → columns_left w.cursor.at.columns (drop w.cursor.row xs) ≡ 0

-- The parts of definitions, from the places that are left before each
module _ (bytes : List ℕ) where
  -- a label with the white space before it and the colon behind it
  abbrev pub label_marks : Stretch → List Place → List Mark
  label_marks s places =
      let label = take s.size (drop s.from places) in
      gap_marks bytes (take s.from places)
      ++ (span bytes name.DefinitionLabel label (marked bytes name.DefinitionLabelMarker name.DefinitionLabelString label) ++ leaf bytes name.DefinitionMarker (take 1 (drop (end s) places)))

  -- a title behind so many bytes, with the white space before it, if there is one
  abbrev pub title_marks : Option Stretch → (from : ℕ) → List Place → List Mark
  title_marks None from places = []
  title_marks (Some s) from places =
      let title = take s.size (drop (s.from - from) places) in
      gap_marks bytes (take (s.from - from) places) ++ span bytes name.DefinitionTitle title (marked bytes name.DefinitionTitleMarker name.DefinitionTitleString title)

-- how many bytes these are
abbrev pub title_length : Option Stretch → (from : ℕ) → ℕ
title_length None from = 0
title_length (Some s) from = (s.from - from) + s.size

-- White space of so many bytes has one line ending at most
pub record FitsGap (size : ℕ) (places : List Place) : Type 0 where
  pub within : size ≤ length places
  pub lines : size ≤ prefix_len is_byte places + (1 + prefix_len is_byte (drop (prefix_len is_byte places + 1) places))

-- a stretch of so many bytes begins and ends with a mark
pub record FitsMarks (size : ℕ) (places : List Place) : Type 0 where
  pub two : 2 ≤ size
  pub first : 1 ≤ prefix_len is_byte places
  pub last : 1 ≤ prefix_len is_byte (drop (size - 1) places)

-- a destination of so many bytes, with marks or without
pub record FitsDestination (size : ℕ) (places : List Place) : Type 0 where
  pub within : size ≤ length places
  pub some : 1 ≤ size
  pub marks : begins_with 60 (text_of places) ≡ true → FitsMarks size places

-- a title behind so many bytes, if there is one
abbrev pub FitsTitle : Option Stretch → (from : ℕ) → List Place → Type 0
FitsTitle None from places = Unit {0}
FitsTitle (Some s) from places = (from ≤ s.from) × FitsGap (s.from - from) places × FitsMarks s.size (drop (s.from - from) places)

-- The parts of a definition fit the places of a text: marks are in lines, and white space has one line ending at most
pub record FitsDefinition (d : Definition) (places : List Place) : Type 0 where
  pub gap : FitsGap d.label.from places
  pub label : FitsMarks d.label.size (drop d.label.from places)
  pub colon : 1 ≤ prefix_len is_byte (drop (end d.label) places)
  pub behind : end d.label + 1 ≤ d.destination.from
  pub white : FitsGap (d.destination.from - (end d.label + 1)) (drop (end d.label + 1) places)
  pub destination : FitsDestination d.destination.size (drop d.destination.from places)
  pub title : FitsTitle d.title (end d.destination) (drop (end d.destination) places)
  pub ends : end_of d.title d.destination ≤ d.size
  pub left : FitsGap (d.size - end_of d.title d.destination) (drop (end_of d.title d.destination) places)
  pub within : d.size ≤ length places
  pub last : prefix_len is_byte (drop d.size places) ≡ 0
