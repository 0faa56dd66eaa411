-- Tables (GFM 0.29, 4.10 "Tables (extension)"), by the bytes of their lines. A line is its virtual bytes behind prefixes, without its line ending.
-- The definitions have no states.
use Rattle.std.specs.Prelude.{ℕ, ◌+◌, ◌==◌, ◌&&◌, not, nat_le, Bool, true, false, cond, List, [], ◌∷◌, drop, length, Option, Some, None}
use Rattle.mdconstructs_tables.specs.Breaks.{is_white}
use Rattle.mdblock_leaf_blocks.specs.LineKinds.{begins_with, run, trimmed, unindented}
use Rattle.mdblock_tables.specs.declared.tables.Alignment.{Alignment}
use Rattle.mdblock_tables.specs.declared.tables.Alignment.TheVariants as align

-- A pipe divides cells, if no backslash comes directly before it: "Include a pipe in a cell's content by escaping it, including inside other inline
-- spans"
abbrev pub divides : (escaped : Bool) → (byte : ℕ) → Bool
divides escaped byte = (byte == 124) && not escaped

-- Cells from the front: none, one that no pipe ends, or one that a pipe ends, and the cells behind that
pub data Cells : Type 0 where
  no_cell : Cells
  last_cell : (cell : List ℕ) → Cells
  next_cell : (cell : List ℕ) → Cells → Cells

-- a byte before cells
abbrev pub onto : ℕ → Cells → Cells
onto b no_cell = last_cell (b ∷ [])
onto b (last_cell cell) = last_cell (b ∷ cell)
onto b (next_cell cell more) = next_cell (b ∷ cell) more

-- "Each row consists of cells containing arbitrary text, in which inlines are parsed, separated by pipes (|)". A pipe at the end ends the last cell.
-- `escaped`: a backslash comes before
abbrev pub cut : (escaped : Bool) → List ℕ → Cells
cut escaped [] = no_cell
cut escaped (b ∷ bs) = cond (divides escaped b) (next_cell [] (cut false bs)) (onto b (cut (b == 92) bs))

-- how many bytes come before the next pipe that divides cells, or all
abbrev pub cell_size : (escaped : Bool) → List ℕ → ℕ
cell_size escaped [] = 0
cell_size escaped (b ∷ bs) = cond (divides escaped b) 0 (1 + cell_size (b == 92) bs)

-- "Spaces between pipes and cell content are trimmed"
abbrev pub content : List ℕ → List ℕ
content cell = trimmed is_white (unindented cell)

abbrev pub contents : Cells → List (List ℕ)
contents no_cell = []
contents (last_cell cell) = content cell ∷ []
contents (next_cell cell more) = content cell ∷ contents more

-- one if this byte comes first, else none
abbrev pub one_if : (byte : ℕ) → List ℕ → ℕ
one_if byte t = cond (begins_with byte t) 1 0

-- "A leading and trailing pipe is also recommended": a line without the white space at both ends, and without the pipe at its front
abbrev pub inside : List ℕ → List ℕ
inside line = trimmed is_white (drop (one_if 124 (unindented line)) (unindented line))

-- The cells of a line, as a row
abbrev pub cells : List ℕ → List (List ℕ)
cells line = contents (cut false (inside line))

-- A line can be a row: it has a cell
abbrev pub is_row : List ℕ → Bool
is_row line = nat_le 1 (length (cells line))

abbrev pub aligned : (colon_before colon_behind : Bool) → Alignment
aligned false false = align.None
aligned true false = align.Left
aligned false true = align.Right
aligned true true = align.Center

-- "The delimiter row consists of cells whose only content are hyphens (-), and optionally, a leading or trailing colon (:), or both, to indicate left,
-- right, or center alignment respectively"
abbrev pub alignment_of : List ℕ → Option Alignment
alignment_of cell =
    let before = one_if 58 cell in
    let filler = run 45 (drop before cell) in
    let behind = one_if 58 (drop (before + filler) cell) in
    cond (nat_le 1 filler && (before + filler + behind == length cell)) (Some (aligned (before == 1) (behind == 1))) None

-- an alignment before others
abbrev pub before_others : Option Alignment → Option (List Alignment) → Option (List Alignment)
before_others None others = None
before_others (Some a) None = None
before_others (Some a) (Some others) = Some (a ∷ others)

-- the alignments of all cells, if each says one
abbrev pub alignments_of : List (List ℕ) → Option (List Alignment)
alignments_of [] = Some []
alignments_of (cell ∷ more) = before_others (alignment_of cell) (alignments_of more)

-- there is a cell, and each says an alignment
abbrev pub some_alignments : List (List ℕ) → Option (List Alignment)
some_alignments [] = None
some_alignments (cell ∷ more) = alignments_of (cell ∷ more)

-- The alignments of the delimiter row that a line is, if it is one
abbrev pub delimiters : List ℕ → Option (List Alignment)
delimiters line = some_alignments (cells line)

-- how many columns they are, and so many more; none if there are no alignments
abbrev pub counted : (more : ℕ) → Option (List Alignment) → ℕ
counted more None = 0
counted more (Some all) = more + length all

-- alignments, if they are so many
abbrev pub if_as_many : (cells : ℕ) → Option (List Alignment) → Option (List Alignment)
if_as_many cells None = None
if_as_many cells (Some all) = cond (cells == length all) (Some all) None

-- "The header row must match the delimiter row in the number of cells. If not, a table will not be recognized": the alignments of the columns of a table
-- that begins with these two lines, if one does
abbrev pub matched : (header delimiter : List ℕ) → Option (List Alignment)
matched header delimiter = if_as_many (length (cells header)) (delimiters delimiter)
