-- In a table the data of a cell's text stands alone in it.
use Rattle.std.proofs.Common.{◌≡◌, ◌≤◌, ◌⊎◌, inl, inr, ℕ, zero, suc, ◌+◌, ◌-◌, Bool, true, false, cond, List, [], ◌∷◌, ◌++◌, append-nil, arith, drop, length, refl, sym, ap, ◌∙◌, subst, take}
use Rattle.std.specs.Prelude.{None}
use Rattle.std.proofs.lemmas.Bool.{false≢true}
use Rattle.std.proofs.lemmas.List.{map-append, take_all}
use Rattle.markdown_base.specs.declared.event.Event.{Event}
use Rattle.markdown_base.specs.declared.event.Kind.TheVariants.{Exit}
use Rattle.markdown_base.specs.declared.event.Name.{Name}
use Rattle.markdown_base.specs.declared.event.Name.TheVariants as name
use Rattle.markdown_base.specs.Events.{same_name}
use Rattle.markdown_base.specs.Virtual.{Seat, end_after}
use Rattle.mdconstructs_machines.specs.LineEvents.{ending_of}
use Rattle.mdconstructs_machines.specs.Spans.{event}
use Rattle.mdblock_leaf_blocks.specs.LeafBlocks.{bytes_of}
use Rattle.mdblock_leaf_blocks.specs.LeafEvents.{Mark, leaf_marks, span_marks, white}
use Rattle.mdblock_leaf_blocks.specs.LineKinds.{indent, unindented}
use Rattle.mdblock_lines.specs.Containers.{Container, footnote, item, Prefix, quote}
use Rattle.mdblock_tables.specs.declared.rows.RowKind.{RowKind}
use Rattle.mdblock_tables.specs.declared.rows.RowKind.TheVariants.{Text, Delimiter}
use Rattle.mdblock_tables.specs.Pieces.{Pieces, nothing, leaf, span, joined, placed, size_of}
use Rattle.mdblock_tables.specs.TablePieces.{cell_name, cell_pieces, cells_pieces, content_name, content_within, is_last, row_cells, row_name, row_pieces}
use Rattle.mdblock_tables.specs.Tables.{Cells, content, cut, inside, last_cell, next_cell, no_cell, one_if}
use Rattle.mdblock_containers.specs.Rows.{Row, rest_of}
use Rattle.mdblock_containers.specs.SeatPlaces.{events_of}
use Rattle.mdblock_containers.specs.Skeleton.{going_marks, prefixes_marks}
use Rattle.mdblock_table_marks.specs.Cells.{BeginsWithData, CellsHaveData}
use Rattle.mdblock_table_marks.specs.Laws.{TablesHaveCellData}
use Rattle.mdblock_table_marks.specs.TableMarks.{body_marks, head_marks, marks_behind, marks_between, row_marks, row_seats, rows_seats}

-- ---- one behind the other
begins-more : (xs ys : List Event) → BeginsWithData xs → BeginsWithData (xs ++ ys)
begins-more [] ys h = absurd h
begins-more (e ∷ []) ys h = absurd h
begins-more (e ∷ f ∷ es) ys h = h

pub both-events : (xs ys : List Event) → CellsHaveData xs → CellsHaveData ys → CellsHaveData (xs ++ ys)
both-events [] ys h k = k
both-events (x ∷ xs) ys h k = ((λ e. begins-more xs ys (h.0 e)), both-events xs ys h.1 k)

abbrev Good : List Mark → Type 0
Good marks = CellsHaveData (events_of marks)

both : (xs ys : List Mark) → Good xs → Good ys → Good (xs ++ ys)
both xs ys h k = subst CellsHaveData (sym (map-append (λ (m : Mark). m.0) xs ys)) (both-events (events_of xs) (events_of ys) h k)

-- another name
abbrev IsOther : Name → Type 0
IsOther n = same_name n name.GfmTableCellText ≡ false

module _ (bytes : List ℕ) where
  around : (n : Name) (ss : List Seat) (inside_marks : List Mark) → IsOther n → Good inside_marks → Good (span_marks bytes n ss inside_marks)
  around n [] inside_marks o h = h
  around n (s ∷ ss) inside_marks o h =
      let exit : Mark = (event bytes Exit n (end_after s.end ss), None) in
      ((λ e. absurd (false≢true (sym o ∙ e))), both inside_marks (exit ∷ []) h ((λ e. absurd (false≢true e)), tt))

  alone : (n : Name) (ss : List Seat) → IsOther n → Good (leaf_marks bytes n ss)
  alone n ss o = around n ss [] o tt

  text : (ss : List Seat) → Good (span_marks bytes name.GfmTableCellText ss (leaf_marks bytes name.Data ss))
  text [] = tt
  text (s ∷ ss) = ((λ e. (refl, refl, refl, refl)), ((λ e. absurd (false≢true e)), ((λ e. absurd (false≢true e)), ((λ e. absurd (false≢true e)), tt))))

  -- ---- pieces
  abbrev PiecesHold : Pieces → Type 0
  PiecesHold nothing = Unit {0}
  PiecesHold (leaf n k more) = IsOther n × PiecesHold more
  PiecesHold (span n within more) = ((IsOther n × PiecesHold within) ⊎ ((n ≡ name.GfmTableCellText) × (within ≡ leaf name.Data (size_of within) nothing))) × PiecesHold more

  take-few : (k : ℕ) (ss : List Seat) → length (take k ss) ≤ k
  take-few zero ss = omega arith
  take-few (suc k) [] = omega arith
  take-few (suc k) (s ∷ ss) = omega (arith, take-few k ss)

  pieces-hold : (ps : Pieces) (ss : List Seat) → PiecesHold ps → Good (placed bytes ps ss)
  pieces-hold nothing ss h = tt
  pieces-hold (leaf n k more) ss h = both (leaf_marks bytes n (take k ss)) (placed bytes more (drop k ss)) (alone n (take k ss) h.0) (pieces-hold more (drop k ss) h.1)
  pieces-hold (span n within more) ss h =
      let k = size_of within in
      let front = take k ss in
      both (span_marks bytes n front (placed bytes within front)) (placed bytes more (drop k ss)) (by h.0 (λ o. pieces-hold within front o)) (pieces-hold more (drop k ss) h.1)
    where
      by : ((IsOther n × PiecesHold within) ⊎ ((n ≡ name.GfmTableCellText) × (within ≡ leaf name.Data (size_of within) nothing))) → (PiecesHold within → Good (placed bytes within (take (size_of within) ss)))
          → Good (span_marks bytes n (take (size_of within) ss) (placed bytes within (take (size_of within) ss)))
      by (inl o) hold = around n (take (size_of within) ss) (placed bytes within (take (size_of within) ss)) o.0 (hold o.1)
      by (inr d) hold =
          let k = size_of within in
          let front = take k ss in
          let data_is : placed bytes within front ≡ leaf_marks bytes name.Data front =
          ap (λ ps. placed bytes ps front) d.1 ∙ append-nil (leaf_marks bytes name.Data (take k front)) ∙ ap (leaf_marks bytes name.Data) (take_all k front (take-few k ss)) in
          subst Good (λ i. span_marks bytes (sym d.0 i) front (sym data_is i)) (text front)

  hold-joined : (ps qs : Pieces) → PiecesHold ps → PiecesHold qs → PiecesHold (joined ps qs)
  hold-joined nothing qs h k = k
  hold-joined (leaf n size ps) qs h k = (h.0, hold-joined ps qs h.1 k)
  hold-joined (span n within ps) qs h k = (h.0, hold-joined ps qs h.1 k)

  row-other : (kind : RowKind) → IsOther (row_name kind)
  row-other Text = refl
  row-other Delimiter = refl

  cell-other : (kind : RowKind) → IsOther (cell_name kind)
  cell-other Text = refl
  cell-other Delimiter = refl

  content-holds : (kind : RowKind) (t : List ℕ) → (IsOther (content_name kind) × PiecesHold (content_within kind t)) ⊎ ((content_name kind ≡ name.GfmTableCellText) × (content_within kind t ≡ leaf name.Data (size_of (content_within kind t)) nothing))
  content-holds Text t = let size : length t ≡ length t + 0 = omega arith in inr (refl, ap (λ k. leaf name.Data k nothing) size)
  content-holds Delimiter t = inl (refl, (refl, (refl, (refl, tt))))

  one-holds : (kind : RowKind) (divider : ℕ) (cell : List ℕ) (closing : ℕ) → PiecesHold (cell_pieces kind divider cell closing)
  one-holds kind divider cell closing = (inl (cell-other kind, (refl, (refl, (content-holds kind (content cell), (refl, (refl, tt)))))), tt)

  all-hold : (kind : RowKind) (divider : ℕ) (cells : Cells) → PiecesHold (cells_pieces kind divider cells)
  all-hold kind divider no_cell = tt
  all-hold kind divider (last_cell cell) = one-holds kind divider cell 0
  all-hold kind divider (next_cell cell more) = hold-joined (cell_pieces kind divider cell (cond (is_last more) 1 0)) (cells_pieces kind 1 more) (one-holds kind divider cell (cond (is_last more) 1 0)) (all-hold kind 1 more)

  cells-hold : (kind : RowKind) (divider : ℕ) (cells : Cells) → PiecesHold (row_cells kind divider cells)
  cells-hold kind divider cells = by (is_last cells)
    where
      by : (b : Bool) → PiecesHold (cond b (leaf name.GfmTableCellDivider divider nothing) (cells_pieces kind divider cells))
      by true = (refl, tt)
      by false = all-hold kind divider cells

  row-holds : (kind : RowKind) (line : List ℕ) → PiecesHold (row_pieces kind line)
  row-holds kind line =
      let columns = indent line in
      let divider = one_if 124 (unindented line) in
      let t = inside line in
      let last = leaf name.SpaceOrTab (length line - (columns + divider + length t)) nothing in
      (inl (row-other kind, (refl, hold-joined (row_cells kind divider (cut false t)) last (cells-hold kind divider (cut false t)) (refl, tt))), tt)

  -- ---- prefixes
  going : (c : Container) (ss : List Seat) → Good (going_marks bytes c ss)
  going (quote q) ss =
      let n = indent (bytes_of ss) in
      let marker = leaf_marks bytes name.BlockQuoteMarker (take 1 (drop n ss)) in
      both (white bytes (take n ss)) (span_marks bytes name.BlockQuotePrefix (drop n ss) (marker ++ white bytes (drop (suc n) ss))) (alone name.SpaceOrTab (take n ss) refl)
      (around name.BlockQuotePrefix (drop n ss) (marker ++ white bytes (drop (suc n) ss)) refl (both marker (white bytes (drop (suc n) ss)) (alone name.BlockQuoteMarker (take 1 (drop n ss)) refl) (alone name.SpaceOrTab (drop (suc n) ss) refl)))
  going (item i) ss = alone name.SpaceOrTab ss refl
  going (footnote f) ss = alone name.SpaceOrTab ss refl

  prefixes : (ps : List Prefix) (ss : List Seat) → Good (prefixes_marks bytes ps ss)
  prefixes [] ss = tt
  prefixes (p ∷ ps) ss = both (going_marks bytes p.container (take p.size ss)) (prefixes_marks bytes ps (drop p.size ss)) (going p.container (take p.size ss)) (prefixes ps (drop p.size ss))

  -- ---- rows
  row : (kind : RowKind) (r : Row) → Good (row_marks bytes kind r)
  row kind r = pieces-hold (row_pieces kind (rest_of r)) (row_seats r) (row-holds kind (rest_of r))

  between : (r s : Row) → Good (marks_between bytes r s)
  between r s = both (leaf_marks bytes name.LineEnding (ending_of r.line)) (prefixes_marks bytes s.went_on s.line) (alone name.LineEnding (ending_of r.line) refl) (prefixes s.went_on s.line)

  behind : (r : Row) (rs : List Row) → Good (marks_behind bytes r rs)
  behind r [] = tt
  behind r (s ∷ ss) = both (marks_between bytes r s) (row_marks bytes Text s ++ marks_behind bytes s ss) (between r s) (both (row_marks bytes Text s) (marks_behind bytes s ss) (row Text s) (behind s ss))

  head : (r s : Row) → Good (head_marks bytes r s)
  head r s =
      around name.GfmTableHead (rows_seats (r ∷ s ∷ [])) (row_marks bytes Text r ++ (marks_between bytes r s ++ row_marks bytes Delimiter s)) refl
      (both (row_marks bytes Text r) (marks_between bytes r s ++ row_marks bytes Delimiter s) (row Text r) (both (marks_between bytes r s) (row_marks bytes Delimiter s) (between r s) (row Delimiter s)))

  body : (r : Row) (rs : List Row) → Good (body_marks bytes r rs)
  body r [] = tt
  body r (s ∷ ss) =
      let rows = row_marks bytes Text s ++ marks_behind bytes s ss in
      both (marks_between bytes r s) (span_marks bytes name.GfmTableBody (rows_seats (s ∷ ss)) rows) (between r s)
      (around name.GfmTableBody (rows_seats (s ∷ ss)) rows refl (both (row_marks bytes Text s) (marks_behind bytes s ss) (row Text s) (behind s ss)))

pub tables_have_cell_data : TablesHaveCellData
tables_have_cell_data bytes header [] = row bytes Text header
tables_have_cell_data bytes header (delimiter ∷ rows) =
    around bytes name.GfmTable (rows_seats (header ∷ delimiter ∷ rows)) (head_marks bytes header delimiter ++ body_marks bytes delimiter rows) refl
    (both (head_marks bytes header delimiter) (body_marks bytes delimiter rows) (head bytes header delimiter) (body bytes delimiter rows))
