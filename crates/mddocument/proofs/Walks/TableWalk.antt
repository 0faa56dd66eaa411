-- What lists of marks have, if lists of spans with such names have it, and data: the marks of tables have it.
use Rattle.std.proofs.Common.{◌≡◌, ◌⊎◌, ℕ, ◌+◌, ◌-◌, Bool, true, false, cond, List, [], ◌∷◌, ◌++◌, drop, inl, inr, length, refl, subst, sym, take}
use Rattle.std.specs.List.{AllByRecursion}
use Rattle.markdown_base.proofs.Common.{every-drop, every-take}
use Rattle.markdown_base.specs.declared.event.Name.{Name}
use Rattle.markdown_base.specs.declared.event.Name.TheVariants as name
use Rattle.markdown_base.specs.Virtual.{Seat}
use Rattle.mdconstructs_machines.specs.LineEvents.{ending_of, line_text}
use Rattle.mdblock_leaf_blocks.specs.LeafEvents.{Mark, leaf_marks, span_marks}
use Rattle.mdblock_leaf_blocks.specs.LineKinds.{indent, unindented}
use Rattle.mdblock_tables.specs.declared.rows.RowKind.{RowKind}
use Rattle.mdblock_tables.specs.declared.rows.RowKind.TheVariants.{Text, Delimiter}
use Rattle.mdblock_tables.specs.Pieces.{Pieces, joined, leaf, nothing, placed, size_of, span}
use Rattle.mdblock_tables.specs.TablePieces.{cell_name, cell_pieces, cells_pieces, content_name, content_within, is_last, row_cells, row_name, row_pieces}
use Rattle.mdblock_tables.specs.Tables.{Cells, content, cut, inside, last_cell, next_cell, no_cell, one_if}
use Rattle.mdblock_containers.specs.Rows.{Row, rest_of}
use Rattle.mdblock_containers.specs.Skeleton.{prefixes_marks}
use Rattle.mdblock_table_marks.specs.TableMarks.{body_marks, head_marks, marks_behind, marks_between, row_marks, row_seats, rows_marks, rows_seats}
use Rattle.mddocument.proofs.Walks.InnerTexts.{AnySeat, any-seats}
use Rattle.mddocument.proofs.Walks.MarksWalk.{Walk, leafs}
use Rattle.mddocument.proofs.Walks.SkeletonWalk.{RowAt}

-- the names that spans in a table have, and those of a table
pub record AreInTable (May : Name → Type 0) : Type 0 where
  pub head : May name.GfmTableHead
  pub body : May name.GfmTableBody
  pub row : May name.GfmTableRow
  pub cell : May name.GfmTableCell
  pub text : May name.GfmTableCellText
  pub divider : May name.GfmTableCellDivider
  pub delimiter_row : May name.GfmTableDelimiterRow
  pub delimiter_cell : May name.GfmTableDelimiterCell
  pub value : May name.GfmTableDelimiterCellValue
  pub marker : May name.GfmTableDelimiterMarker
  pub filler : May name.GfmTableDelimiterFiller

pub record AreOfTable (May : Name → Type 0) : Type 0 where
  pub table : May name.GfmTable
  pub inside : AreInTable May

-- what tables are made of
abbrev pub table_names : List Name
table_names =
    name.GfmTableHead ∷ name.GfmTableBody ∷ name.GfmTableRow ∷ name.GfmTableCell ∷ name.GfmTableCellText ∷ name.GfmTableCellDivider ∷ name.GfmTableDelimiterRow ∷ name.GfmTableDelimiterCell ∷ name.GfmTableDelimiterCellValue
    ∷ name.GfmTableDelimiterMarker ∷ name.GfmTableDelimiterFiller ∷ []

pub are-in-table : (May : Name → Type 0) → AllByRecursion May table_names → AreInTable May
are-in-table May (a, (b, (c, (d, (e, (f, (g, (h, (i, (j, (k, _))))))))))) = record { head = a; body = b; row = c; cell = d; text = e; divider = f; delimiter_row = g; delimiter_cell = h; value = i; marker = j; filler = k }

module _ {bytes : List ℕ} {Are : List Mark → Type 0} {May : Name → Type 0} (w : Walk bytes Are May AnySeat) (At : Seat → Type 0) (some-data : (seats : List Seat) → AllByRecursion At seats → Are (leaf_marks bytes name.Data seats)) (m : AreInTable May) where
  -- pieces of such names, or data
  abbrev PiecesMay : Pieces → Type 0
  PiecesMay nothing = Unit {0}
  PiecesMay (leaf n k more) = (May n ⊎ (n ≡ name.Data)) × PiecesMay more
  PiecesMay (span n within more) = May n × (PiecesMay within × PiecesMay more)

  one-leaf : (n : Name) (ss : List Seat) → May n ⊎ (n ≡ name.Data) → AllByRecursion At ss → Are (leaf_marks bytes n ss)
  one-leaf n ss (inl h) at = leafs w n ss h (any-seats ss)
  one-leaf n ss (inr h) at = subst (λ (x : Name). Are (leaf_marks bytes x ss)) (sym h) (some-data ss at)

  pieces-are : (ps : Pieces) (ss : List Seat) → PiecesMay ps → AllByRecursion At ss → Are (placed bytes ps ss)
  pieces-are nothing ss h at = w.none
  pieces-are (leaf n k more) ss h at = w.both _ _ (one-leaf n (take k ss) h.0 (every-take At k ss at)) (pieces-are more (drop k ss) h.1 (every-drop At k ss at))
  pieces-are (span n within more) ss h at =
      let k = size_of within in
      w.both _ _ (w.over n (take k ss) (placed bytes within (take k ss)) h.0 (any-seats (take k ss)) (pieces-are within (take k ss) h.1.0 (every-take At k ss at)))
      (pieces-are more (drop k ss) h.1.1 (every-drop At k ss at))

  may-both : (ps qs : Pieces) → PiecesMay ps → PiecesMay qs → PiecesMay (joined ps qs)
  may-both nothing qs h k = k
  may-both (leaf n size ps) qs h k = (h.0, may-both ps qs h.1 k)
  may-both (span n within ps) qs h k = (h.0, (h.1.0, may-both ps qs h.1.1 k))

  row-may : (kind : RowKind) → May (row_name kind)
  row-may Text = m.row
  row-may Delimiter = m.delimiter_row

  cell-may : (kind : RowKind) → May (cell_name kind)
  cell-may Text = m.cell
  cell-may Delimiter = m.delimiter_cell

  content-may : (kind : RowKind) → May (content_name kind)
  content-may Text = m.text
  content-may Delimiter = m.value

  within-may : (kind : RowKind) (t : List ℕ) → PiecesMay (content_within kind t)
  within-may Text t = (inr refl, tt)
  within-may Delimiter t = (inl m.marker, (inl m.filler, (inl m.marker, tt)))

  one-cell : (kind : RowKind) (divider : ℕ) (cell : List ℕ) (closing : ℕ) → PiecesMay (cell_pieces kind divider cell closing)
  one-cell kind divider cell closing = (cell-may kind, ((inl m.divider, (inl w.space, (content-may kind, (within-may kind (content cell), (inl w.space, (inl m.divider, tt)))))), tt))

  all-cells : (kind : RowKind) (divider : ℕ) (cells : Cells) → PiecesMay (cells_pieces kind divider cells)
  all-cells kind divider no_cell = tt
  all-cells kind divider (last_cell cell) = one-cell kind divider cell 0
  all-cells kind divider (next_cell cell more) = may-both (cell_pieces kind divider cell (cond (is_last more) 1 0)) (cells_pieces kind 1 more) (one-cell kind divider cell (cond (is_last more) 1 0)) (all-cells kind 1 more)

  some-cells : (kind : RowKind) (divider : ℕ) (cells : Cells) → PiecesMay (row_cells kind divider cells)
  some-cells kind divider cells = by (is_last cells)
    where
      by : (b : Bool) → PiecesMay (cond b (leaf name.GfmTableCellDivider divider nothing) (cells_pieces kind divider cells))
      by true = (inl m.divider, tt)
      by false = all-cells kind divider cells

  row-pieces : (kind : RowKind) (line : List ℕ) → PiecesMay (row_pieces kind line)
  row-pieces kind line =
      let columns = indent line in
      let divider = one_if 124 (unindented line) in
      let t = inside line in
      let last = leaf name.SpaceOrTab (length line - (columns + divider + length t)) nothing in
      (row-may kind, ((inl w.space, may-both (row_cells kind divider (cut false t)) last (some-cells kind divider (cut false t)) (inl w.space, tt)), tt))

  -- ---- rows
  one-row : (kind : RowKind) (r : Row) → RowAt At r → Are (row_marks bytes kind r)
  one-row kind r at = pieces-are (row_pieces kind (rest_of r)) (row_seats r) (row-pieces kind (rest_of r)) (every-drop At r.columns (line_text r.line) at)

  -- the prefixes of a line are so
  abbrev pub PrefixIs : Row → Type 0
  PrefixIs r = Are (prefixes_marks bytes r.went_on r.line)

  between : (r s : Row) → PrefixIs s → Are (marks_between bytes r s)
  between r s h = w.both _ _ (leafs w name.LineEnding (ending_of r.line) w.line_ending (any-seats (ending_of r.line))) h

  behind : (r : Row) (rs : List Row) → AllByRecursion PrefixIs rs → AllByRecursion (RowAt At) rs → Are (marks_behind bytes r rs)
  behind r [] h at = w.none
  behind r (s ∷ ss) h at = w.both _ _ (between r s h.0) (w.both _ _ (one-row Text s at.0) (behind s ss h.1 at.1))

  head : (r s : Row) → PrefixIs s → RowAt At r → RowAt At s → Are (head_marks bytes r s)
  head r s h at ats =
      let inside = row_marks bytes Text r ++ (marks_between bytes r s ++ row_marks bytes Delimiter s) in
      w.over name.GfmTableHead (rows_seats (r ∷ s ∷ [])) inside m.head (any-seats (rows_seats (r ∷ s ∷ [])))
      (w.both _ _ (one-row Text r at) (w.both _ _ (between r s h) (one-row Delimiter s ats)))

  body : (r : Row) (rs : List Row) → AllByRecursion PrefixIs rs → AllByRecursion (RowAt At) rs → Are (body_marks bytes r rs)
  body r [] h at = w.none
  body r (s ∷ ss) h at =
      let inside = row_marks bytes Text s ++ marks_behind bytes s ss in
      w.both _ _ (between r s h.0) (w.over name.GfmTableBody (rows_seats (s ∷ ss)) inside m.body (any-seats (rows_seats (s ∷ ss))) (w.both _ _ (one-row Text s at.0) (behind s ss h.1 at.1)))

  -- A table, by its span
  pub tables-by : (All : List Mark → Type 0) → ((ms : List Mark) → Are ms → All ms) → ((seats : List Seat) (inside : List Mark) → Are inside → All (span_marks bytes name.GfmTable seats inside)) → (header : Row) (rows : List Row) → AllByRecursion PrefixIs rows
      → AllByRecursion (RowAt At) (header ∷ rows) → All (rows_marks bytes header rows)
  tables-by All any one header [] h at = any (row_marks bytes Text header) (one-row Text header at.0)
  tables-by All any one header (s ∷ ss) h at =
      let inside = head_marks bytes header s ++ body_marks bytes s ss in
      one (rows_seats (header ∷ s ∷ ss)) inside (w.both _ _ (head header s h.0 at.0 at.1.0) (body s ss h.1 at.1.1))

-- The marks of a table have it
pub tables-are : {bytes : List ℕ} {Are : List Mark → Type 0} {May : Name → Type 0} (w : Walk bytes Are May AnySeat) (At : Seat → Type 0) (some-data : (seats : List Seat) → AllByRecursion At seats → Are (leaf_marks bytes name.Data seats)) (m : AreOfTable May)
    (header : Row) (rows : List Row) → AllByRecursion (PrefixIs w At some-data m.inside) rows → AllByRecursion (RowAt At) (header ∷ rows) → Are (rows_marks bytes header rows)
tables-are {bytes} {Are} w At some-data m header rows h at = tables-by w At some-data m.inside Are (λ ms k. k) (λ seats inside k. w.over name.GfmTable seats inside m.table (any-seats seats) k) header rows h at
