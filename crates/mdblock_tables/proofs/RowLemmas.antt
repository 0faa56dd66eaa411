-- Lemmas on rows as pieces: cells one after another, sizes, and the contents of cells.
use Rattle.std.proofs.Common.{◌≡◌, ℕ, suc, ◌+◌, ◌-◌, ◌<◌, ◌≤◌, Bool, true, false, cond, List, [], ◌∷◌, ◌++◌, length, take, drop, append-nil, append_assoc, refl, sym, ap, ◌∙◌, arith, eq-eqb, ne_eqb, eqb-true, length-append, length-drop}
use Rattle.std.specs.Prelude.{◌==◌, ◌&&◌, not, nat_lt}
use Rattle.std.proofs.lemmas.Bool.{eqb-false, ltb-true, ltb-false}
use Rattle.std.proofs.lemmas.List.Sums.{prefix_len-le-length}
use Rattle.markdown_base.specs.declared.event.Name.TheVariants as name
use Rattle.mdconstructs_tables.specs.Breaks.{is_white}
use Rattle.mdblock_leaf_blocks.specs.LineKinds.{indent, run, unindented}
use Rattle.mdblock_tables.specs.declared.pieces.Piece.{Piece}
use Rattle.mdblock_tables.specs.declared.pieces.Step.TheVariants as step
use Rattle.mdblock_tables.specs.declared.rows.RowKind.{RowKind}
use Rattle.mdblock_tables.specs.declared.rows.RowKind.TheVariants.{Text, Delimiter}
use Rattle.mdblock_tables.specs.Laws.{RowsAreWhole}
use Rattle.mdblock_tables.specs.Pieces.{nothing, leaf, joined, piece, size_of, told}
use Rattle.mdblock_tables.specs.TablePieces.{cell_name, cell_pieces, cell_within, cells_pieces, content_name, content_within, is_last, row_cells, row_name, row_pieces, row_within, value_within}
use Rattle.mdblock_tables.specs.Tables.{Cells, no_cell, last_cell, next_cell, content, cut, divides, inside, one_if, onto}
use Rattle.mdblock_tables.proofs.CellLemmas.{IsNext, is_last_cell, is_next_cell, long, nothing_behind, trimmed_shorter}
use Rattle.mdblock_tables.proofs.PieceLemmas.{size_joined, told_joined}

-- ---- sizes
pub one_if_within : (byte : ℕ) (t : List ℕ) → one_if byte t ≤ length t
one_if_within byte [] = omega arith
one_if_within byte (b ∷ bs) = by (b == byte)
  where
    by : (e : Bool) → cond e 1 0 ≤ suc (length bs)
    by true = omega arith
    by false = omega arith

-- the white space before a content, and the content, are in the cell
pub content_within_cell : (cell : List ℕ) → indent cell + length (content cell) ≤ length cell
content_within_cell cell = omega (arith, prefix_len-le-length is_white cell, trimmed_shorter is_white (unindented cell), length-drop (indent cell) cell)

value_size : (t : List ℕ) → size_of (value_within t) ≡ length t
value_size t =
    let before = one_if 58 t in
    let filler = prefix_len-le-length (λ b. b == 45) (drop before t) in
    omega (arith, one_if_within 58 t, filler, length-drop before t)

pub content_size : (kind : RowKind) (t : List ℕ) → size_of (content_within kind t) ≡ length t
content_size Text t = omega arith
content_size Delimiter t = value_size t

pub cell_size_is : (kind : RowKind) (divider : ℕ) (cell : List ℕ) (closing : ℕ) → size_of (cell_within kind divider cell closing) ≡ divider + length cell + closing
cell_size_is kind divider cell closing = omega (arith, content_size kind (content cell), content_within_cell cell)

-- the bytes of cells, with the pipes between and behind them
abbrev pub whole : Cells → List ℕ
whole no_cell = []
whole (last_cell cell) = cell
whole (next_cell cell more) = cell ++ 124 ∷ whole more

pub whole_cut : (e : Bool) (t : List ℕ) → whole (cut e t) ≡ t
whole_cut e [] = refl
whole_cut e (b ∷ bs) = by (whole_cut false bs) (whole_cut (b == 92) bs) (b == 124) (not e) refl
  where
    onto-whole : (c : Cells) → whole (onto b c) ≡ b ∷ whole c
    onto-whole no_cell = refl
    onto-whole (last_cell cell) = refl
    onto-whole (next_cell cell more) = refl

    by : whole (cut false bs) ≡ bs → whole (cut (b == 92) bs) ≡ bs → (p n : Bool) → (b == 124) ≡ p → whole (cond (p && n) (next_cell [] (cut false bs)) (onto b (cut (b == 92) bs))) ≡ b ∷ bs
    by apart on true true is = ap (λ l. 124 ∷ l) apart ∙ ap (λ (x : ℕ). x ∷ bs) (sym (eqb-true b 124 is))
    by apart on true false is = onto-whole (cut (b == 92) bs) ∙ ap (λ l. b ∷ l) on
    by apart on false n is = onto-whole (cut (b == 92) bs) ∙ ap (λ l. b ∷ l) on

module _ (kind : RowKind) where
  cells_size : (divider : ℕ) (cells : Cells) → is_last cells ≡ false → size_of (cells_pieces kind divider cells) ≡ divider + length (whole cells)
  cells_size divider no_cell some = absurd (cc)
  cells_size divider (last_cell cell) some = omega (arith, cell_size_is kind divider cell 0)
  cells_size divider (next_cell cell more) some = by (cells_size 1 more) (is_last more) refl
    where
      last : (c : Cells) → is_last c ≡ true → c ≡ no_cell
      last no_cell e = refl
      last (last_cell cell) e = absurd (cc)
      last (next_cell cell more) e = absurd (cc)

      by : (is_last more ≡ false → size_of (cells_pieces kind 1 more) ≡ 1 + length (whole more)) → (b : Bool) → is_last more ≡ b → size_of (joined (cell_pieces kind divider cell (cond b 1 0)) (cells_pieces kind 1 more)) ≡ divider + length (cell ++ 124 ∷ whole more)
      by rest true e =
          let joins = size_joined (cell_pieces kind divider cell 1) (cells_pieces kind 1 more) in
          let none = ap (λ c. size_of (cells_pieces kind 1 c)) (last more e) in
          let nothing_more = ap (λ c. length (whole c)) (last more e) in
          omega (arith, joins, none, nothing_more, cell_size_is kind divider cell 1, length-append cell (124 ∷ whole more))
      by rest false e =
          let joins = size_joined (cell_pieces kind divider cell 0) (cells_pieces kind 1 more) in
          omega (arith, joins, rest e, cell_size_is kind divider cell 0, length-append cell (124 ∷ whole more))

  row_cells_size : (divider : ℕ) (t : List ℕ) → size_of (row_cells kind divider (cut false t)) ≡ divider + length t
  row_cells_size divider t = by (cut false t) (ap length (whole_cut false t))
    where
      by : (c : Cells) → length (whole c) ≡ length t → size_of (row_cells kind divider c) ≡ divider + length t
      by no_cell is = omega (arith, is)
      by (last_cell cell) is = omega (arith, is, cells_size divider (last_cell cell) refl)
      by (next_cell cell more) is = omega (arith, is, cells_size divider (next_cell cell more) refl)

-- white space, the pipe at the front and the cells are in the line
pub inside_within : (line : List ℕ) → indent line + one_if 124 (unindented line) + length (inside line) ≤ length line
inside_within line =
    let d = one_if 124 (unindented line) in
    let shorter = trimmed_shorter is_white (drop d (unindented line)) in
    omega (arith, prefix_len-le-length is_white line, one_if_within 124 (unindented line), shorter, length-drop d (unindented line), length-drop (indent line) line)

pub row_size : (kind : RowKind) (line : List ℕ) → size_of (row_within kind line) ≡ length line
row_size kind line =
    let d = one_if 124 (unindented line) in
    let t = inside line in
    let rest = length line - (indent line + d + length t) in
    let joins = size_joined (row_cells kind d (cut false t)) (leaf name.SpaceOrTab rest nothing) in
    omega (arith, joins, row_cells_size kind d t, inside_within line)

pub rows_are_whole : RowsAreWhole
rows_are_whole kind line = omega (arith, row_size kind line)

-- ---- cells in a loop
last_cut : (e : Bool) (t : List ℕ) → is_last (cut e t) ≡ (length t == 0)
last_cut e [] = refl
last_cut e (b ∷ bs) = by (divides e b) ∙ sym (ne_eqb (suc (length bs)) 0 (λ q. omega (arith, q)))
  where
    onto-last : (c : Cells) → is_last (onto b c) ≡ false
    onto-last no_cell = refl
    onto-last (last_cell cell) = refl
    onto-last (next_cell cell more) = refl

    by : (d : Bool) → is_last (cond d (next_cell [] (cut false bs)) (onto b (cut (b == 92) bs))) ≡ false
    by true = refl
    by false = onto-last (cut (b == 92) bs)

module _ (kind : RowKind) (divider : ℕ) (t : List ℕ) (next size : ℕ) (at : IsNext t next size) where
  abbrev xs : List ℕ
  xs = drop next t

  abbrev behind : List ℕ
  behind = drop (next + (size + 1)) t

  -- a cell's closing divider is there, if nothing comes behind
  closing_is : size < length xs → is_last (cut false behind) ≡ (size + 1 == length xs)
  closing_is less = last_cut false behind ∙ by (length behind == 0) refl
    where
      shorter : length behind ≡ length t - (next + (size + 1))
      shorter = length-drop (next + (size + 1)) t

      by : (b : Bool) → (length behind == 0) ≡ b → b ≡ (size + 1 == length xs)
      by true e = let none = eqb-true (length behind) 0 e in sym (eq-eqb (size + 1) (length xs) (omega (arith, none, shorter, less, long t next size at, at.inside)))
      by false e = let more = eqb-false (length behind) 0 e in sym (ne_eqb (size + 1) (length xs) (λ q. more (omega (arith, q, shorter, long t next size at))))

  pub cells_step : told (cells_pieces kind divider (cut false xs)) ≡ told (cell_pieces kind divider (take size xs) (cond (size + 1 == length xs) 1 0)) ++ told (cells_pieces kind 1 (cut false behind))
  cells_step = by (nat_lt size (length xs)) refl
    where
      by : (b : Bool) → nat_lt size (length xs) ≡ b
          → told (cells_pieces kind divider (cut false xs)) ≡ told (cell_pieces kind divider (take size xs) (cond (size + 1 == length xs) 1 0)) ++ told (cells_pieces kind 1 (cut false behind))
      by true e =
          let less = ltb-true size (length xs) e in
          ap (λ c. told (cells_pieces kind divider c)) (is_next_cell t next size at less)
          ∙ told_joined (cell_pieces kind divider (take size xs) (cond (is_last (cut false behind)) 1 0)) (cells_pieces kind 1 (cut false behind))
          ∙ ap (λ b. told (cell_pieces kind divider (take size xs) (cond b 1 0)) ++ told (cells_pieces kind 1 (cut false behind))) (closing_is less)
      by false e =
          let all = ltb-false size (length xs) e in
          let more : (size + 1 == length xs) ≡ false = ne_eqb (size + 1) (length xs) (λ q. omega (arith, q, all)) in
          ap (λ c. told (cells_pieces kind divider c)) (is_last_cell t next size at all)
          ∙ sym (append-nil (told (cell_pieces kind divider (take size xs) 0)))
          ∙ (λ i. told (cell_pieces kind divider (take size xs) (cond (sym more i) 1 0)) ++ told (cells_pieces kind 1 (cut false (sym (nothing_behind t next size at all) i))))

-- a row without cells, and with some
pub row_none : (kind : RowKind) (divider : ℕ) (t : List ℕ) → (length t == 0) ≡ true → told (row_cells kind divider (cut false t)) ≡ piece step.Whole name.GfmTableCellDivider divider ∷ []
row_none kind divider t e = ap (λ b. told (cond b (leaf name.GfmTableCellDivider divider nothing) (cells_pieces kind divider (cut false t)))) (last_cut false t ∙ e)

pub row_some : (kind : RowKind) (divider : ℕ) (t : List ℕ) → (length t == 0) ≡ false → told (cells_pieces kind divider (cut false t)) ≡ told (row_cells kind divider (cut false t))
row_some kind divider t e = sym (ap (λ b. told (cond b (leaf name.GfmTableCellDivider divider nothing) (cells_pieces kind divider (cut false t)))) (last_cut false t ∙ e))

-- ---- what is added of a value, a cell and a row
pub value_told : (t : List ℕ) (before filler : ℕ) → before ≡ one_if 58 t → filler ≡ run 45 (drop before t)
    → piece step.Whole name.GfmTableDelimiterMarker before ∷ piece step.Whole name.GfmTableDelimiterFiller filler ∷ piece step.Whole name.GfmTableDelimiterMarker (length t - (before + filler)) ∷ [] ≡ told (value_within t)
value_told t before filler eb ef = ap (by before) ef ∙ ap (λ b. by b (run 45 (drop b t))) eb
  where
    by : (before filler : ℕ) → List Piece
    by before filler = piece step.Whole name.GfmTableDelimiterMarker before ∷ piece step.Whole name.GfmTableDelimiterFiller filler ∷ piece step.Whole name.GfmTableDelimiterMarker (length t - (before + filler)) ∷ []

pub cell_told : (kind : RowKind) (divider : ℕ) (cell : List ℕ) (closing : ℕ) → let text = content cell in let size = divider + length cell + closing in
    piece step.Enter (cell_name kind) size ∷ piece step.Whole name.GfmTableCellDivider divider ∷ piece step.Whole name.SpaceOrTab (indent cell) ∷ piece step.Enter (content_name kind) (length text)
    ∷ (told (content_within kind text) ++ piece step.Exit (content_name kind) (length text) ∷ piece step.Whole name.SpaceOrTab (length cell - (indent cell + length text))
    ∷ piece step.Whole name.GfmTableCellDivider closing ∷ piece step.Exit (cell_name kind) size ∷ []) ≡ told (cell_pieces kind divider cell closing)
cell_told kind divider cell closing =
    let text = content cell in
    let d = piece step.Whole name.GfmTableCellDivider divider in
    let w = piece step.Whole name.SpaceOrTab (indent cell) in
    let r = piece step.Whole name.SpaceOrTab (length cell - (indent cell + length text)) in
    let l = piece step.Whole name.GfmTableCellDivider closing in
    let n = cell_name kind in
    let m = content_name kind in
    let inner = told (content_within kind text) in
    let outer_size = sym (cell_size_is kind divider cell closing) in
    let inner_size = sym (content_size kind text) in
    (λ i. piece step.Enter n (outer_size i) ∷ d ∷ w ∷ piece step.Enter m (inner_size i) ∷ (inner ++ piece step.Exit m (inner_size i) ∷ r ∷ l ∷ piece step.Exit n (outer_size i) ∷ []))
    ∙ (let k = size_of (content_within kind text) in
    let outer = size_of (cell_within kind divider cell closing) in
    ap (λ x. piece step.Enter n outer ∷ d ∷ w ∷ piece step.Enter m k ∷ x) (sym (append_assoc inner (piece step.Exit m k ∷ r ∷ l ∷ []) (piece step.Exit n outer ∷ []))))

pub row_told : (kind : RowKind) (line : List ℕ) → let divider = one_if 124 (unindented line) in
    piece step.Enter (row_name kind) (length line) ∷ piece step.Whole name.SpaceOrTab (indent line)
    ∷ (told (row_cells kind divider (cut false (inside line))) ++ piece step.Whole name.SpaceOrTab (length line - (indent line + divider + length (inside line)))
    ∷ piece step.Exit (row_name kind) (length line) ∷ []) ≡ told (row_pieces kind line)
row_told kind line =
    let divider = one_if 124 (unindented line) in
    let w = piece step.Whole name.SpaceOrTab (indent line) in
    let rest = length line - (indent line + divider + length (inside line)) in
    let r = piece step.Whole name.SpaceOrTab rest in
    let n = row_name kind in
    let size = sym (row_size kind line) in
    let inner = row_cells kind divider (cut false (inside line)) in
    (λ i. piece step.Enter n (size i) ∷ w ∷ (told inner ++ r ∷ piece step.Exit n (size i) ∷ []))
    ∙ (let outer = size_of (row_within kind line) in
    ap (λ x. piece step.Enter n outer ∷ w ∷ x) (sym (append_assoc (told inner) (r ∷ []) (piece step.Exit n outer ∷ [])) ∙ ap (λ x. x ++ piece step.Exit n outer ∷ []) (sym (told_joined inner (leaf name.SpaceOrTab rest nothing)))))
