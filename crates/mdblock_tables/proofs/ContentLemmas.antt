-- The contents of a row's cells are the cells of its line.
use Rattle.std.proofs.Common.{◌≡◌, ℕ, ◌+◌, ◌-◌, ◌≤◌, true, false, cond, List, [], ◌∷◌, ◌++◌, length, take, drop, reverse, append-nil, append_assoc, refl, sym, ap, ◌∙◌, arith, length-append, length-drop}
use Rattle.std.specs.List.{prefix_len}
use Rattle.std.proofs.lemmas.List.{drop-append-le, drop-take, drop_at, length-take-le, take-append-drop, take-append-le, take-take, take_all}
use Rattle.markdown_base.specs.declared.event.Name.{Name}
use Rattle.markdown_base.specs.declared.event.Name.TheVariants as name
use Rattle.markdown_base.specs.Events.{same_name}
use Rattle.mdconstructs_tables.specs.Breaks.{is_white}
use Rattle.mdblock_leaf_blocks.specs.LineKinds.{indent, unindented}
use Rattle.mdblock_tables.specs.declared.rows.RowKind.{RowKind}
use Rattle.mdblock_tables.specs.declared.rows.RowKind.TheVariants.{Text, Delimiter}
use Rattle.mdblock_tables.specs.Laws.{RowsHaveCells}
use Rattle.mdblock_tables.specs.Pieces.{nothing, leaf, joined, size_of, under}
use Rattle.mdblock_tables.specs.TablePieces.{cell_name, cell_pieces, cell_within, cells_pieces, content_name, content_within, is_last, row_cells, row_name, row_pieces, row_within}
use Rattle.mdblock_tables.specs.Tables.{Cells, no_cell, last_cell, next_cell, content, contents, cut, inside, one_if}
use Rattle.mdblock_tables.proofs.CellLemmas.{trim_front, trimmed_is_front}
use Rattle.mdblock_tables.proofs.PieceLemmas.{under_joined}
use Rattle.mdblock_tables.proofs.RowLemmas.{cell_size_is, content_size, content_within_cell, one_if_within, row_size, whole, whole_cut}

-- a stretch of a cell, where the cell stands between other bytes
found : (pre cell post : List ℕ) (d i k all : ℕ) → length pre ≡ d → i + k ≤ length cell → d + length cell ≤ all → take k (drop i (drop d (take all (pre ++ (cell ++ post))))) ≡ take k (drop i cell)
found pre cell post d i k all e within room =
    let t = pre ++ (cell ++ post) in
    let m = all - d in
    let whole_size : d + m ≡ all = omega (arith, room) in
    let inner_size : i + (m - i) ≡ m = omega (arith, within, room) in
    let behind : drop d (take all t) ≡ take m (cell ++ post) = ap (λ n. drop d (take n t)) (sym whole_size) ∙ drop-take d m t ∙ ap (take m) (drop_at pre (cell ++ post) d e) in
    let later : drop i (take m (cell ++ post)) ≡ take (m - i) (drop i (cell ++ post)) = ap (λ n. drop i (take n (cell ++ post))) (sym inner_size) ∙ drop-take i (m - i) (cell ++ post) in
    ap (λ l. take k (drop i l)) behind ∙ ap (take k) later
    ∙ take-take k (m - i) (drop i (cell ++ post)) (omega (arith, within, room))
    ∙ ap (take k) (drop-append-le i cell post (omega (arith, within)))
    ∙ take-append-le k (drop i cell) post (omega (arith, within, length-drop i cell))

cells-apart : (kind : RowKind) → same_name (cell_name kind) (content_name kind) ≡ false
cells-apart Text = refl
cells-apart Delimiter = refl

rows-apart : (kind : RowKind) → same_name (row_name kind) (content_name kind) ≡ false
rows-apart Text = refl
rows-apart Delimiter = refl

same : (kind : RowKind) → same_name (content_name kind) (content_name kind) ≡ true
same Text = refl
same Delimiter = refl

module _ (kind : RowKind) where
  abbrev n : Name
  n = content_name kind

  under_cell : (divider : ℕ) (cell : List ℕ) (closing : ℕ) (pre post : List ℕ) → length pre ≡ divider → under n (cell_pieces kind divider cell closing) (pre ++ (cell ++ post)) ≡ content cell ∷ []
  under_cell divider cell closing pre post e =
      let t = pre ++ (cell ++ post) in
      let within = cell_within kind divider cell closing in
      let all = size_of within in
      let k = size_of (content_within kind (content cell)) in
      let z = drop (indent cell) (drop divider (take all t)) in
      let many : k ≡ length (content cell) = content_size kind (content cell) in
      ap (λ b. cond b (take all t ∷ []) (under n within (take all t)) ++ []) (cells-apart kind) ∙ append-nil (under n within (take all t))
      ∙ ap (λ b. cond b (take k z ∷ []) (under n (content_within kind (content cell)) (take k z)) ++ []) (same kind)
      ∙ ap (λ l. l ∷ []) (ap (λ m. take m z) many
      ∙ found pre cell post divider (indent cell) (length (content cell)) all e (content_within_cell cell) (omega (arith, cell_size_is kind divider cell closing)) ∙ trimmed_is_front is_white (unindented cell))

  under_cells : (divider : ℕ) (cells : Cells) (pre post : List ℕ) → length pre ≡ divider → under n (cells_pieces kind divider cells) (pre ++ (whole cells ++ post)) ≡ contents cells
  under_cells divider no_cell pre post e = refl
  under_cells divider (last_cell cell) pre post e = under_cell divider cell 0 pre post e
  under_cells divider (next_cell cell more) pre post e = by more (under_cells 1 more (124 ∷ []) post refl)
    where
      -- a cell, and those behind it
      both : (m : Cells) (closing : ℕ) → let rest = 124 ∷ (whole m ++ post) in
          under n (cells_pieces kind 1 m) (drop (size_of (cell_pieces kind divider cell closing)) (pre ++ (cell ++ rest))) ≡ contents m
          → under n (joined (cell_pieces kind divider cell closing) (cells_pieces kind 1 m)) (pre ++ ((cell ++ 124 ∷ whole m) ++ post)) ≡ content cell ∷ contents m
      both m closing behind =
          let rest = 124 ∷ (whole m ++ post) in
          ap (λ l. under n (joined (cell_pieces kind divider cell closing) (cells_pieces kind 1 m)) (pre ++ l)) (append_assoc cell (124 ∷ whole m) post)
          ∙ under_joined n (cell_pieces kind divider cell closing) (cells_pieces kind 1 m) (pre ++ (cell ++ rest))
          ∙ (λ i. under_cell divider cell closing pre rest e i ++ behind i)

      place : (rest : List ℕ) → drop (size_of (cell_pieces kind divider cell 0)) (pre ++ (cell ++ rest)) ≡ rest
      place rest =
          ap (drop (size_of (cell_pieces kind divider cell 0))) (sym (append_assoc pre cell rest))
          ∙ drop_at (pre ++ cell) rest (size_of (cell_pieces kind divider cell 0)) (omega (arith, e, length-append pre cell, cell_size_is kind divider cell 0))

      by : (m : Cells) → under n (cells_pieces kind 1 m) (124 ∷ (whole m ++ post)) ≡ contents m
          → under n (joined (cell_pieces kind divider cell (cond (is_last m) 1 0)) (cells_pieces kind 1 m)) (pre ++ ((cell ++ 124 ∷ whole m) ++ post)) ≡ content cell ∷ contents m
      by no_cell behind = both no_cell 1 refl
      by (last_cell c) behind = both (last_cell c) 0 (ap (under n (cells_pieces kind 1 (last_cell c))) (place (124 ∷ (c ++ post))) ∙ behind)
      by (next_cell c cs) behind = both (next_cell c cs) 0 (ap (under n (cells_pieces kind 1 (next_cell c cs))) (place (124 ∷ (whole (next_cell c cs) ++ post))) ∙ behind)

  under_row_cells : (divider : ℕ) (cells : Cells) (pre post : List ℕ) → length pre ≡ divider → under n (row_cells kind divider cells) (pre ++ (whole cells ++ post)) ≡ contents cells
  under_row_cells divider no_cell pre post e = refl
  under_row_cells divider (last_cell cell) pre post e = under_cells divider (last_cell cell) pre post e
  under_row_cells divider (next_cell cell more) pre post e = under_cells divider (next_cell cell more) pre post e

  under_row : (line : List ℕ) → under n (row_pieces kind line) line ≡ contents (cut false (inside line))
  under_row line =
      let u = unindented line in
      let d = one_if 124 u in
      let t = inside line in
      let cells = cut false t in
      let post = reverse (take (prefix_len is_white (reverse (drop d u))) (reverse (drop d u))) in
      let within = row_within kind line in
      let all = size_of within in
      let rest = length line - (indent line + d + length t) in
      let line_is : take all line ≡ line = take_all all line (omega (arith, row_size kind line)) in
      let parts : u ≡ take d u ++ (whole cells ++ post) =
      sym (take-append-drop d u) ∙ ap (λ l. take d u ++ l) (trim_front is_white (drop d u) ∙ ap (λ l. l ++ post) (sym (whole_cut false t))) in
      let front : length (take d u) ≡ d = length-take-le d u (one_if_within 124 u) in
      ap (λ b. cond b (take all line ∷ []) (under n within (take all line)) ++ []) (rows-apart kind) ∙ append-nil (under n within (take all line))
      ∙ ap (under n within) line_is ∙ under_joined n (row_cells kind d cells) (leaf name.SpaceOrTab rest nothing) u
      ∙ append-nil (under n (row_cells kind d cells) u) ∙ ap (under n (row_cells kind d cells)) parts ∙ under_row_cells d cells (take d u) post front

pub rows_have_cells : RowsHaveCells
rows_have_cells kind line = under_row kind line
