-- Where a stretch of lines goes on over a rest: it is one section of the document, with one chunk. In the parts it is two, with blank lines between them.
use Rattle.std.specs.Prelude.{◌≡◌, ℕ, ◌||◌, Bool, true, false, List, [], ◌∷◌, ◌++◌, drop, length, map}
use Rattle.std.specs.List.{AllByRecursion}
use Rattle.markdown_base.specs.declared.event.Content.TheVariants as content
use Rattle.markdown_base.specs.declared.event.Name.TheVariants as name
use Rattle.markdown_base.specs.Virtual.{Seat}
use Rattle.mdblock_leaf_blocks.specs.BlocksRead.{block_seats}
use Rattle.mdblock_leaf_blocks.specs.LeafBlocks.{Line, blank_line}
use Rattle.mdblock_leaf_blocks.specs.LeafEvents.{Mark, alone, chunk_span, last_end, leaf_blocks_marks}
use Rattle.mdblock_containers.specs.Rows.{Row}
use Rattle.mdblock_containers.specs.Skeleton.{Part, further}
use Rattle.mdblock_definitions.specs.Sections.{Section, lines}

-- ---- parts
abbrev pub firsts : List Part → List Row
firsts ps = map (λ (p : Part). p.first) ps

-- a part of one blank line
pub record IsBlankPart (p : Part) : Type 0 where
  pub blank : p.first.is_blank ≡ true
  pub left : p.first.is_left_blank ≡ true
  pub alone : p.more ≡ []

-- a stretch, blank lines behind it, and a stretch that goes on with it, as one
abbrev pub joined_part : Part → List Part → Part → Part
joined_part begin blanks end = record begin { more = (begin.more ++ firsts blanks) ++ (end.first ∷ end.more) }

-- a line goes on with a stretch, or may: it is left blank
abbrev pub may_stay : Row → Bool
may_stay row = row.is_left_blank || row.stays

abbrev pub AllStay : List Row → Type 0
AllStay rs = AllByRecursion (λ (row : Row). may_stay row ≡ true) rs

-- these are the first of rows
pub record Begin (front all : List Row) : Type 0 where
  pub left : List Row
  pub is : all ≡ front ++ left

-- ---- sections
abbrev pub plain_section : Part → Section
plain_section p = record { part = p; inside = lines false }

abbrev pub plain_sections : List Part → List Section
plain_sections ps = map plain_section ps

-- a part stands in the same spans
pub record IsSame (around p : Part) : Type 0 where
  pub frames : p.frames ≡ around.frames
  pub stands : p.stands ≡ around.stands

-- in none
abbrev pub at_top : Row → Part
at_top r = record { first = r; more = []; frames = []; stands = [] }

-- nothing is said of lines
abbrev pub any_place : Bool → List Row → Type 0
any_place is_behind rows = Unit {0}

-- A stretch, blank lines behind it, and a stretch that begins with this row and goes on with it
pub record Stretch (r : Row) : Type 0 where
  pub begin : Part
  pub blanks : List Part
  pub end : Part
  pub full : begin.first.is_blank ≡ false
  pub stay : AllStay (begin.more ++ firsts blanks)
  pub reach : further (begin.more ++ firsts blanks) ≡ length begin.more
  pub are_blank : AllByRecursion IsBlankPart blanks
  pub end_is : end.first ≡ r
  pub end_stay : AllStay end.more

-- It stands in the spans of a part. `Place` is said of the first stretch and the blank lines behind it
pub record Within (Place : (is_behind : Bool) → List Row → Type 0) (around : Part) (r : Row) (it : Stretch r) : Type 0 where
  pub is_behind : Bool
  pub going_on : r.is_left_blank ≡ false
  pub begin_same : IsSame around it.begin
  pub blanks_same : AllByRecursion (IsSame around) it.blanks
  pub end_same : IsSame around it.end
  pub place : Place is_behind (it.begin.first ∷ (it.begin.more ++ firsts it.blanks))

-- The last stretch of the first rows, and the first of the second, are one section of the whole
pub record SectionSeam (Place : (is_behind : Bool) → List Row → Type 0) (around : Part) (x : List Row) (r : Row) (rs : List Row) (whole first second : List Section) : Type 0 where
  pub it : Stretch r
  pub within : Within Place around r it
  pub front : List Section
  pub back : List Section
  pub above : List Row
  pub rows_are : x ≡ above ++ (it.begin.first ∷ (it.begin.more ++ firsts it.blanks))
  pub end_rows : Begin it.end.more rs
  pub whole_is : whole ≡ front ++ (record { part = joined_part it.begin it.blanks it.end; inside = lines within.is_behind } ∷ back)
  pub first_is : first ≡ front ++ (record { part = it.begin; inside = lines within.is_behind } ∷ plain_sections it.blanks)
  pub second_is : second ≡ plain_section it.end ∷ back

-- Sections of rows behind others: those of both, but for such a section
pub data SectionsJoin (Place : (is_behind : Bool) → List Row → Type 0) (around : Part) (x : List Row) (r : Row) (rs : List Row) (whole first second : List Section) : Type 0 where
  sections_apart : whole ≡ first ++ second → SectionsJoin Place around x r rs whole first second
  section_seam : SectionSeam Place around x r rs whole first second → SectionsJoin Place around x r rs whole first second

-- ---- marks
module _ (bytes : List ℕ) where
  -- the chunk of a stretch
  abbrev pub stretch_chunk : List Seat → List Mark
  stretch_chunk seats = chunk_span bytes (alone content.Content) name.Data seats []

  -- the line ending of lines, and blank lines
  abbrev pub marks_between : (before blanks : List Line) → List Mark
  marks_between before blanks = last_end bytes before ++ leaf_blocks_marks bytes (map blank_line blanks)

  -- In the whole one chunk stands for the chunks of both, with what stands between them. White space of so many columns stands before it, if the stretch comes directly
  -- behind definitions
  pub record ChunkSeam (whole first second : List Mark) : Type 0 where
    pub front : List Mark
    pub before : List Line
    pub blanks : List Line
    pub behind : List Line
    pub back : List Mark
    pub white : ℕ
    pub is_held : Bool
    pub whole_is : whole ≡ front ++ (stretch_chunk (drop white (block_seats is_held ((before ++ blanks) ++ behind))) ++ back)
    pub first_is : first ≡ front ++ (stretch_chunk (drop white (block_seats false before)) ++ marks_between before blanks)
    pub second_is : second ≡ stretch_chunk (block_seats is_held behind) ++ back
