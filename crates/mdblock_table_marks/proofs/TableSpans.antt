-- What is kept by the spans of tables holds of the marks of a table, over the virtual bytes of its lines.
use Rattle.std.proofs.Common.{◌≡◌, ℕ, ◌+◌, ◌-◌, Bool, true, false, cond, List, [], ◌∷◌, ◌++◌, append-nil, append_assoc, arith, drop, length, refl, sym, ap, subst, take, ◌∙◌}
use Rattle.std.specs.List.{AllByRecursion}
use Rattle.std.proofs.lemmas.List.{drop-map, length-drop, length-map, length-take-le, take-append-drop}
use Rattle.markdown_base.specs.declared.event.Name.TheVariants as name
use Rattle.markdown_base.specs.Events.{is_void}
use Rattle.markdown_base.specs.Virtual.{Seat}
use Rattle.mdconstructs_machines.specs.LineEvents.{ending_of, line_text}
use Rattle.mdblock_leaf_blocks.specs.LeafBlocks.{bytes_of}
use Rattle.mdblock_leaf_blocks.specs.LeafEvents.{Mark, leaf_marks, span_marks}
use Rattle.mdblock_leaf_blocks.specs.LineKinds.{indent, unindented}
use Rattle.mdblock_tables.specs.declared.rows.RowKind.{RowKind}
use Rattle.mdblock_tables.specs.declared.rows.RowKind.TheVariants.{Text, Delimiter}
use Rattle.mdblock_tables.specs.Pieces.{Pieces, nothing, leaf, span, joined, placed, size_of}
use Rattle.mdblock_tables.specs.TablePieces.{cell_name, cell_pieces, cells_pieces, content_name, content_within, is_last, row_cells, row_name, row_pieces}
use Rattle.mdblock_tables.specs.Tables.{Cells, content, cut, inside, last_cell, next_cell, no_cell, one_if}
use Rattle.mdblock_tables.proofs.RowLemmas.{rows_are_whole}
use Rattle.mdblock_containers.specs.Prefixes.{columns_of}
use Rattle.mdblock_containers.specs.Rows.{Row, rest_of}
use Rattle.mdblock_containers.specs.Skeleton.{prefixes_marks}
use Rattle.mdblock_containers.proofs.AnySpans.{IsKeptByAnySpans}
use Rattle.mdblock_table_marks.specs.TableMarks.{body_marks, head_marks, marks_behind, marks_between, row_marks, row_seats, rows_marks, rows_seats, seats_behind, seats_between}

-- the bytes of a row
pub rest-is : (row : Row) → rest_of row ≡ bytes_of (row_seats row)
rest-is row = drop-map (λ (s : Seat). s.byte) row.columns (line_text row.line)

pub rest-size : (row : Row) → length (rest_of row) ≡ length (row_seats row)
rest-size row = ap (λ (l : List ℕ). length l) (rest-is row) ∙ length-map (row_seats row) (λ (s : Seat). s.byte)

-- ---- pieces, of which those around others have no void name
abbrev pub AreOpen : Pieces → Type 0
AreOpen nothing = Unit {0}
AreOpen (leaf n k more) = AreOpen more
AreOpen (span n within more) = (is_void n ≡ false) × AreOpen within × AreOpen more

open-joined : (ps qs : Pieces) → AreOpen ps → AreOpen qs → AreOpen (joined ps qs)
open-joined nothing qs h k = k
open-joined (leaf n size ps) qs h k = open-joined ps qs h k
open-joined (span n within ps) qs h k = (h.0, h.1, open-joined ps qs h.2 k)

row-open : (kind : RowKind) → is_void (row_name kind) ≡ false
row-open Text = refl
row-open Delimiter = refl

cell-open : (kind : RowKind) → is_void (cell_name kind) ≡ false
cell-open Text = refl
cell-open Delimiter = refl

content-open : (kind : RowKind) → is_void (content_name kind) ≡ false
content-open Text = refl
content-open Delimiter = refl

within-open : (kind : RowKind) (t : List ℕ) → AreOpen (content_within kind t)
within-open Text t = tt
within-open Delimiter t = tt

one-open : (kind : RowKind) (divider : ℕ) (cell : List ℕ) (closing : ℕ) → AreOpen (cell_pieces kind divider cell closing)
one-open kind divider cell closing = (cell-open kind, (content-open kind, within-open kind (content cell), tt), tt)

all-open : (kind : RowKind) (divider : ℕ) (cells : Cells) → AreOpen (cells_pieces kind divider cells)
all-open kind divider no_cell = tt
all-open kind divider (last_cell cell) = one-open kind divider cell 0
all-open kind divider (next_cell cell more) = open-joined (cell_pieces kind divider cell (cond (is_last more) 1 0)) (cells_pieces kind 1 more) (one-open kind divider cell (cond (is_last more) 1 0)) (all-open kind 1 more)

cells-open : (kind : RowKind) (divider : ℕ) (cells : Cells) → AreOpen (row_cells kind divider cells)
cells-open kind divider cells = by (is_last cells)
  where
    by : (b : Bool) → AreOpen (cond b (leaf name.GfmTableCellDivider divider nothing) (cells_pieces kind divider cells))
    by true = tt
    by false = all-open kind divider cells

pub row-pieces-open : (kind : RowKind) (line : List ℕ) → AreOpen (row_pieces kind line)
row-pieces-open kind line =
    let columns = indent line in
    let divider = one_if 124 (unindented line) in
    let t = inside line in
    let cells = row_cells kind divider (cut false t) in
    (row-open kind, open-joined cells (leaf name.SpaceOrTab (length line - (columns + divider + length t)) nothing) (cells-open kind divider (cut false t)) tt, tt)

module _ (bytes : List ℕ) (P : List Mark → List Seat → Type 0) (kept : IsKeptByAnySpans bytes P) where
  over : (marks : List Mark) (a b : List Seat) → a ≡ b → P marks a → P marks b
  over marks a b e h = subst (P marks) e h

  none-left : (ss : List Seat) → length ss ≡ 0 → P [] ss
  none-left [] e = kept.none
  none-left (s ∷ ss) e = absurd (omega (arith, e))

  -- pieces over as many virtual bytes as they have
  pub pieces-kept : (ps : Pieces) (ss : List Seat) → AreOpen ps → length ss ≡ size_of ps → P (placed bytes ps ss) ss
  pieces-kept nothing ss m e = none-left ss e
  pieces-kept (leaf n k more) ss m e =
      over (placed bytes (leaf n k more) ss) (take k ss ++ drop k ss) ss (take-append-drop k ss)
      (kept.both (leaf_marks bytes n (take k ss)) (placed bytes more (drop k ss)) (take k ss) (drop k ss) (kept.alone n (take k ss)) (pieces-kept more (drop k ss) m (omega (arith, e, length-drop k ss))))
  pieces-kept (span n within more) ss m e =
      let k = size_of within in
      over (placed bytes (span n within more) ss) (take k ss ++ drop k ss) ss (take-append-drop k ss)
      (kept.both (span_marks bytes n (take k ss) (placed bytes within (take k ss))) (placed bytes more (drop k ss)) (take k ss) (drop k ss)
      (kept.around n (take k ss) (placed bytes within (take k ss)) m.0 (pieces-kept within (take k ss) m.1 (length-take-le k ss (omega (arith, e)))))
      (pieces-kept more (drop k ss) m.2 (omega (arith, e, length-drop k ss))))

  pub row-kept : (kind : RowKind) (row : Row) → P (row_marks bytes kind row) (row_seats row)
  row-kept kind row = pieces-kept (row_pieces kind (rest_of row)) (row_seats row) (row-pieces-open kind (rest_of row)) (sym (rest-size row) ∙ sym (rows_are_whole kind (rest_of row)))

  -- it holds of the prefixes of lines
  abbrev pub PrefixHolds : Row → Type 0
  PrefixHolds row = P (prefixes_marks bytes row.went_on row.line) (take (columns_of row.went_on) row.line)

  between-kept : (row next : Row) → PrefixHolds next → P (marks_between bytes row next) (seats_between row next)
  between-kept row next h =
      kept.both (leaf_marks bytes name.LineEnding (ending_of row.line)) (prefixes_marks bytes next.went_on next.line) (ending_of row.line) (take (columns_of next.went_on) next.line)
      (kept.alone name.LineEnding (ending_of row.line)) h

  behind-kept : (row : Row) (rows : List Row) → AllByRecursion PrefixHolds rows → P (marks_behind bytes row rows) (seats_behind row rows)
  behind-kept row [] h = kept.none
  behind-kept row (next ∷ more) h =
      kept.both (marks_between bytes row next) (row_marks bytes Text next ++ marks_behind bytes next more) (seats_between row next) (row_seats next ++ seats_behind next more) (between-kept row next h.0)
      (kept.both (row_marks bytes Text next) (marks_behind bytes next more) (row_seats next) (seats_behind next more) (row-kept Text next) (behind-kept next more h.1))

  head-kept : (header delimiter : Row) → PrefixHolds delimiter → P (head_marks bytes header delimiter) (rows_seats (header ∷ delimiter ∷ []))
  head-kept header delimiter h =
      let first = row_marks bytes Text header in
      let gap = marks_between bytes header delimiter in
      let second = row_marks bytes Delimiter delimiter in
      kept.around name.GfmTableHead (rows_seats (header ∷ delimiter ∷ [])) (first ++ (gap ++ second)) refl
      (kept.both first (gap ++ second) (row_seats header) (seats_between header delimiter ++ (row_seats delimiter ++ [])) (row-kept Text header)
      (kept.both gap second (seats_between header delimiter) (row_seats delimiter ++ []) (between-kept header delimiter h)
      (over second (row_seats delimiter) (row_seats delimiter ++ []) (sym (append-nil (row_seats delimiter))) (row-kept Delimiter delimiter))))

  body-kept : (delimiter : Row) (rows : List Row) → AllByRecursion PrefixHolds rows → P (body_marks bytes delimiter rows) (seats_behind delimiter rows)
  body-kept delimiter [] h = kept.none
  body-kept delimiter (row ∷ rows) h =
      let inside = row_marks bytes Text row ++ marks_behind bytes row rows in
      kept.both (marks_between bytes delimiter row) (span_marks bytes name.GfmTableBody (rows_seats (row ∷ rows)) inside) (seats_between delimiter row) (rows_seats (row ∷ rows)) (between-kept delimiter row h.0)
      (kept.around name.GfmTableBody (rows_seats (row ∷ rows)) inside refl
      (kept.both (row_marks bytes Text row) (marks_behind bytes row rows) (row_seats row) (seats_behind row rows) (row-kept Text row) (behind-kept row rows h.1)))

  -- the virtual bytes of the head, and those behind it
  pub head-and-body : (header delimiter : Row) (rows : List Row) → rows_seats (header ∷ delimiter ∷ []) ++ seats_behind delimiter rows ≡ rows_seats (header ∷ delimiter ∷ rows)
  head-and-body header delimiter rows =
      let a = row_seats header in
      let b = seats_between header delimiter in
      let c = row_seats delimiter in
      let d = seats_behind delimiter rows in
      append_assoc a (b ++ (c ++ [])) d ∙ ap (λ l. a ++ l) (append_assoc b (c ++ []) d ∙ ap (λ l. b ++ (l ++ d)) (append-nil c))

  -- What is kept holds of a table, where it holds of the prefixes of its lines behind the first
  pub tables-kept : (header : Row) (rows : List Row) → AllByRecursion PrefixHolds rows → P (rows_marks bytes header rows) (rows_seats (header ∷ rows))
  tables-kept header [] h = over (row_marks bytes Text header) (row_seats header) (row_seats header ++ []) (sym (append-nil (row_seats header))) (row-kept Text header)
  tables-kept header (delimiter ∷ rows) h =
      let head = head_marks bytes header delimiter in
      let body = body_marks bytes delimiter rows in
      kept.around name.GfmTable (rows_seats (header ∷ delimiter ∷ rows)) (head ++ body) refl
      (over (head ++ body) (rows_seats (header ∷ delimiter ∷ []) ++ seats_behind delimiter rows) (rows_seats (header ∷ delimiter ∷ rows)) (head-and-body header delimiter rows)
      (kept.both head body (rows_seats (header ∷ delimiter ∷ [])) (seats_behind delimiter rows) (head-kept header delimiter h.0) (body-kept delimiter rows h.1)))
