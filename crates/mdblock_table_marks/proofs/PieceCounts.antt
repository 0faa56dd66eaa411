-- How many pieces a row has.
use Rattle.std.proofs.Common.{◌≡◌, ◌≤◌, ℕ, suc, ◌+◌, ◌*◌, ◌-◌, Bool, true, false, cond, List, [], ◌∷◌, ◌++◌, length, refl, ap, ◌∙◌, arith, drop, length-drop}
use Rattle.std.specs.Prelude.{◌==◌}
use Rattle.std.proofs.lemmas.List.{length-append}
use Rattle.markdown_base.specs.declared.event.Name.TheVariants as name
use Rattle.mdconstructs_tables.specs.Breaks.{is_white}
use Rattle.mdblock_leaf_blocks.specs.LineKinds.{indent, unindented}
use Rattle.mdblock_tables.specs.declared.pieces.Piece.{Piece}
use Rattle.mdblock_tables.specs.declared.pieces.Step.TheVariants as step
use Rattle.mdblock_tables.specs.declared.rows.RowKind.{RowKind}
use Rattle.mdblock_tables.specs.declared.rows.RowKind.TheVariants.{Text, Delimiter}
use Rattle.mdblock_tables.specs.Pieces.{nothing, leaf, joined, piece, size_of, told}
use Rattle.mdblock_tables.specs.TablePieces.{cell_pieces, cells_pieces, is_last, row_cells, row_name, row_pieces, row_within}
use Rattle.mdblock_tables.specs.Tables.{Cells, cut, divides, inside, last_cell, next_cell, no_cell, one_if, onto}
use Rattle.mdblock_tables.proofs.CellLemmas.{trimmed_shorter}
use Rattle.mdblock_tables.proofs.PieceLemmas.{told_joined}
use Rattle.mdblock_table_marks.specs.Laws.{RowsHaveFewPieces}

-- how many cells there are
abbrev many : Cells → ℕ
many no_cell = 0
many (last_cell cell) = 1
many (next_cell cell more) = suc (many more)

onto-few : (b : ℕ) (cells : Cells) → many (onto b cells) ≤ suc (many cells)
onto-few b no_cell = omega arith
onto-few b (last_cell cell) = omega arith
onto-few b (next_cell cell more) = omega arith

-- each has a byte, or a pipe behind it
cut-few : (escaped : Bool) (t : List ℕ) → many (cut escaped t) ≤ length t
cut-few escaped [] = omega arith
cut-few escaped (b ∷ bs) = by (divides escaped b) (cut-few false bs) (cut-few (b == 92) bs)
  where
    by : (x : Bool) → many (cut false bs) ≤ length bs → many (cut (b == 92) bs) ≤ length bs → many (cond x (next_cell [] (cut false bs)) (onto b (cut (b == 92) bs))) ≤ length (b ∷ bs)
    by true h k = omega (arith, h)
    by false h k = omega (arith, k, onto-few b (cut (b == 92) bs))

one-text : (divider : ℕ) (cell : List ℕ) (closing : ℕ) → length (told (cell_pieces Text divider cell closing)) ≡ 9
one-text divider cell closing = refl

one-delimiter : (divider : ℕ) (cell : List ℕ) (closing : ℕ) → length (told (cell_pieces Delimiter divider cell closing)) ≡ 11
one-delimiter divider cell closing = refl

one-few : (kind : RowKind) (divider : ℕ) (cell : List ℕ) (closing : ℕ) → length (told (cell_pieces kind divider cell closing)) ≤ 11
one-few Text divider cell closing = omega (arith, one-text divider cell closing)
one-few Delimiter divider cell closing = omega (arith, one-delimiter divider cell closing)

cells-few : (kind : RowKind) (divider : ℕ) (cells : Cells) → length (told (cells_pieces kind divider cells)) ≤ 11 * many cells
cells-few kind divider no_cell = omega arith
cells-few kind divider (last_cell cell) = omega (arith, one-few kind divider cell 0)
cells-few kind divider (next_cell cell more) =
    let end = cond (is_last more) 1 0 in
    let first = told (cell_pieces kind divider cell end) in
    let rest = told (cells_pieces kind 1 more) in
    let all : length (told (joined (cell_pieces kind divider cell end) (cells_pieces kind 1 more))) ≡ length first + length rest = ap (λ (l : List Piece). length l) (told_joined (cell_pieces kind divider cell end) (cells_pieces kind 1 more)) ∙ length-append first rest in
    omega (arith, all, one-few kind divider cell end, cells-few kind 1 more)

row-few : (kind : RowKind) (divider : ℕ) (cells : Cells) → length (told (row_cells kind divider cells)) ≤ 11 * many cells + 1
row-few kind divider cells = by (is_last cells) (cells-few kind divider cells)
  where
    by : (b : Bool) → length (told (cells_pieces kind divider cells)) ≤ 11 * many cells → length (told (cond b (leaf name.GfmTableCellDivider divider nothing) (cells_pieces kind divider cells))) ≤ 11 * many cells + 1
    by true h = omega arith
    by false h = omega (arith, h)

pub rows_have_few_pieces : RowsHaveFewPieces
rows_have_few_pieces kind line =
    let columns = indent line in
    let divider = one_if 124 (unindented line) in
    let t = inside line in
    let left = length line - (columns + divider + length t) in
    let cells = row_cells kind divider (cut false t) in
    let last = leaf name.SpaceOrTab left nothing in
    let within = told (joined cells last) in
    let both : length within ≡ length (told cells) + 1 = ap (λ (l : List Piece). length l) (told_joined cells last) ∙ length-append (told cells) (told last) in
    let inner = told (row_within kind line) in
    let exit = piece step.Exit (row_name kind) (size_of (row_within kind line)) ∷ [] in
    let around : length (told (row_pieces kind line)) ≡ suc (length (inner ++ exit)) = refl in
    let front : length inner ≡ suc (length within) = refl in
    let end : length (inner ++ exit) ≡ length inner + 1 = length-append inner exit in
    let shorter : length t ≤ length line = omega (arith, trimmed_shorter is_white (drop divider (unindented line)), length-drop divider (unindented line), length-drop columns line) in
    omega (arith, both, around, front, end, shorter, row-few kind divider (cut false t), cut-few false t)
