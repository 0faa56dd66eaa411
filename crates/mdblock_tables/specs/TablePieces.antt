-- Rows of tables (GFM 4.10) as pieces, by the bytes of their lines.
use Rattle.std.specs.Prelude.{ℕ, ◌+◌, ◌-◌, List, cond, true, false, Bool, drop, length}
use Rattle.markdown_base.specs.declared.event.Name.{Name}
use Rattle.markdown_base.specs.declared.event.Name.TheVariants as name
use Rattle.mdblock_leaf_blocks.specs.LineKinds.{indent, run, unindented}
use Rattle.mdblock_tables.specs.declared.rows.RowKind.{RowKind}
use Rattle.mdblock_tables.specs.declared.rows.RowKind.TheVariants.{Text, Delimiter}
use Rattle.mdblock_tables.specs.Pieces.{Pieces, nothing, leaf, span, joined}
use Rattle.mdblock_tables.specs.Tables.{Cells, no_cell, last_cell, next_cell, content, cut, inside, one_if}

-- ---- names
abbrev pub row_name : RowKind → Name
row_name Text = name.GfmTableRow
row_name Delimiter = name.GfmTableDelimiterRow

abbrev pub cell_name : RowKind → Name
cell_name Text = name.GfmTableCell
cell_name Delimiter = name.GfmTableDelimiterCell

abbrev pub content_name : RowKind → Name
content_name Text = name.GfmTableCellText
content_name Delimiter = name.GfmTableDelimiterCellValue

-- the value of a delimiter cell: colons around hyphens
abbrev pub value_within : List ℕ → Pieces
value_within t =
    let before = one_if 58 t in
    let filler = run 45 (drop before t) in
    leaf name.GfmTableDelimiterMarker before (leaf name.GfmTableDelimiterFiller filler (leaf name.GfmTableDelimiterMarker (length t - (before + filler)) nothing))

-- what the content of a cell has. Inlines are parsed in the data of a text
abbrev pub content_within : RowKind → List ℕ → Pieces
content_within Text t = leaf name.Data (length t) nothing
content_within Delimiter t = value_within t

-- no cell comes behind
abbrev pub is_last : Cells → Bool
is_last no_cell = true
is_last (last_cell cell) = false
is_last (next_cell cell more) = false

module _ (kind : RowKind) where
  -- A cell: a divider, if one comes before it, white space, its content, white space, and a divider, if it is the last and one ends it
  abbrev pub cell_within : (divider : ℕ) → (cell : List ℕ) → (closing : ℕ) → Pieces
  cell_within divider cell closing =
      let columns = indent cell in
      let text = content cell in
      leaf name.GfmTableCellDivider divider
      (leaf name.SpaceOrTab columns
      (span (content_name kind) (content_within kind text)
      (leaf name.SpaceOrTab (length cell - (columns + length text))
      (leaf name.GfmTableCellDivider closing nothing))))

  abbrev pub cell_pieces : (divider : ℕ) → (cell : List ℕ) → (closing : ℕ) → Pieces
  cell_pieces divider cell closing = span (cell_name kind) (cell_within divider cell closing) nothing

  -- cells, each with the divider before it
  abbrev pub cells_pieces : (divider : ℕ) → Cells → Pieces
  cells_pieces divider no_cell = nothing
  cells_pieces divider (last_cell cell) = cell_pieces divider cell 0
  cells_pieces divider (next_cell cell more) = joined (cell_pieces divider cell (cond (is_last more) 1 0)) (cells_pieces 1 more)

  -- the cells of a row, by the pipe at its front. A pipe alone is a divider of no cell
  abbrev pub row_cells : (divider : ℕ) → Cells → Pieces
  row_cells divider cells = cond (is_last cells) (leaf name.GfmTableCellDivider divider nothing) (cells_pieces divider cells)

  -- A row: its cells between white space
  abbrev pub row_within : List ℕ → Pieces
  row_within line =
      let columns = indent line in
      let divider = one_if 124 (unindented line) in
      let t = inside line in
      leaf name.SpaceOrTab columns (joined (row_cells divider (cut false t)) (leaf name.SpaceOrTab (length line - (columns + divider + length t)) nothing))

  abbrev pub row_pieces : List ℕ → Pieces
  row_pieces line = span (row_name kind) (row_within line) nothing
