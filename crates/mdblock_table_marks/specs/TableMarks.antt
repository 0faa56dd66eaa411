-- The events of a table (GFM, 4.10), from the virtual bytes of its lines. The definitions have no states.
use Rattle.std.specs.Prelude.{ℕ, List, [], ◌∷◌, ◌++◌, drop, take}
use Rattle.markdown_base.specs.declared.event.Name.TheVariants as name
use Rattle.markdown_base.specs.Virtual.{Seat}
use Rattle.mdconstructs_machines.specs.LineEvents.{ending_of, line_text}
use Rattle.mdblock_leaf_blocks.specs.LeafEvents.{Mark, leaf_marks, span_marks}
use Rattle.mdblock_tables.specs.declared.rows.RowKind.{RowKind}
use Rattle.mdblock_tables.specs.declared.rows.RowKind.TheVariants.{Text, Delimiter}
use Rattle.mdblock_tables.specs.Pieces.{placed}
use Rattle.mdblock_tables.specs.TablePieces.{row_pieces}
use Rattle.mdblock_containers.specs.Prefixes.{columns_of}
use Rattle.mdblock_containers.specs.Rows.{Row, rest_of}
use Rattle.mdblock_containers.specs.Skeleton.{Part, prefixes_marks}

-- what a line has behind its prefixes, without its line ending
abbrev pub row_seats : Row → List Seat
row_seats row = drop row.columns (line_text row.line)

-- between two lines: the line ending of the first, and the prefixes of the second
abbrev pub seats_between : Row → Row → List Seat
seats_between row next = ending_of row.line ++ take (columns_of next.went_on) next.line

-- further lines, behind one
abbrev pub seats_behind : Row → List Row → List Seat
seats_behind row [] = []
seats_behind row (next ∷ more) = seats_between row next ++ (row_seats next ++ seats_behind next more)

-- the virtual bytes of lines, behind the prefixes of the first, without the last line ending
abbrev pub rows_seats : List Row → List Seat
rows_seats [] = []
rows_seats (row ∷ rows) = row_seats row ++ seats_behind row rows

module _ (bytes : List ℕ) where
  -- A row, by its cells. The text of a cell is data; in a document it is read as a text of its own
  abbrev pub row_marks : RowKind → Row → List Mark
  row_marks kind row = placed bytes (row_pieces kind (rest_of row)) (row_seats row)

  -- between two rows: a line ending, and the prefixes of the next line
  abbrev pub marks_between : Row → Row → List Mark
  marks_between row next = leaf_marks bytes name.LineEnding (ending_of row.line) ++ prefixes_marks bytes next.went_on next.line

  -- further rows, behind one
  abbrev pub marks_behind : Row → List Row → List Mark
  marks_behind row [] = []
  marks_behind row (next ∷ more) = marks_between row next ++ (row_marks Text next ++ marks_behind next more)

  -- "a single header row, a delimiter row separating the header from the data"
  abbrev pub head_marks : (header delimiter : Row) → List Mark
  head_marks header delimiter =
      span_marks bytes name.GfmTableHead (rows_seats (header ∷ delimiter ∷ []))
      (row_marks Text header ++ (marks_between header delimiter ++ row_marks Delimiter delimiter))

  -- "and zero or more data rows"
  abbrev pub body_marks : (delimiter : Row) → List Row → List Mark
  body_marks delimiter [] = []
  body_marks delimiter (row ∷ rows) = marks_between delimiter row ++ span_marks bytes name.GfmTableBody (rows_seats (row ∷ rows)) (row_marks Text row ++ marks_behind row rows)

  -- The table whose header row is a line, by the lines behind it. A header row alone is a row of no table
  abbrev pub rows_marks : (header : Row) → List Row → List Mark
  rows_marks header [] = row_marks Text header
  rows_marks header (delimiter ∷ rows) = span_marks bytes name.GfmTable (rows_seats (header ∷ delimiter ∷ rows)) (head_marks header delimiter ++ body_marks delimiter rows)

  -- "A table is an arrangement of data with rows and columns": a part of a document that is one, behind the prefixes of its first line
  abbrev pub table_marks : Part → List Mark
  table_marks part = rows_marks part.first part.more
