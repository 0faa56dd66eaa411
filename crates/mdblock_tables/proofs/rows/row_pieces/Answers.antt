use Rattle.std.proofs.Common.{List, [], ◌∷◌, ◌++◌, ◌∙◌, ◌+◌, ◌-◌, ◌≡◌, false, length, drop, ap}
use Rattle.markdown_base.specs.declared.event.Name.TheVariants as name
use Rattle.mdconstructs_tables.specs.Breaks.{is_white}
use Rattle.mdblock_leaf_blocks.specs.LineKinds.{trimmed, unindented}
use Rattle.mdblock_tables.specs.declared.pieces.Piece.{Piece}
use Rattle.mdblock_tables.specs.declared.pieces.Step.TheVariants.{Enter, Whole, Exit}
use Rattle.mdblock_tables.specs.Pieces.{piece, told}
use Rattle.mdblock_tables.specs.TablePieces.{row_cells}
use Rattle.mdblock_tables.specs.Tables.{cut, inside, one_if}
use Rattle.mdblock_tables.proofs.PieceLemmas.{adds}
use Rattle.mdblock_tables.proofs.RowLemmas.{row_told}
use Rattle.mdblock_tables.proofs.rows.row_pieces.Goals as goal

pub returns-clause-pieces : goal.returns-clause-pieces
returns-clause-pieces g c =
    let k = c.args.kind in
    let t = c.args.t.now in
    let w = c.indent-white.result in
    let d = c.one_if-divider.result in
    let row = c.trimmed-row.result.now in
    let line : c.behind-line.result.now ≡ unindented t = c.behind-line.ensures.value ∙ ap (λ n. drop n t) c.indent-white.ensures.value in
    let pipe : d ≡ one_if 124 (unindented t) = c.one_if-divider.ensures.value ∙ ap (one_if 124) line in
    let is : row ≡ inside t = c.trimmed-row.ensures.value ∙ ap (trimmed is_white) (c.behind.ensures.value ∙ (λ i. drop (pipe i) (line i))) in
    let enter : List Piece = piece Enter c.row_name.result (length t) ∷ [] in
    let white : List Piece = piece Whole name.SpaceOrTab w ∷ [] in
    let inner : List Piece = told (row_cells k d (cut false row)) in
    let rest : List Piece = piece Whole name.SpaceOrTab (length t - (w + d + length row)) ∷ [] in
    let exit : List Piece = piece Exit c.row_name-2.result (length t) ∷ [] in
    let front = adds [] enter white (c.in_ok-push.ensures ∙ ap (λ l. l ++ enter) c.new-pieces.ensures.items) c.in_ok-push-2.ensures in
    let back = adds c.push_cells.new.pieces.items rest exit c.in_ok-push-3.ensures c.in_ok-push-4.ensures in
    adds [] (enter ++ white) (inner ++ (rest ++ exit)) front (adds c.push-2.new.pieces.items inner (rest ++ exit) c.in_ok-push_cells.ensures.pieces back)
    ∙ (λ i. piece Enter (c.row_name.ensures i) (length t) ∷ piece Whole name.SpaceOrTab (c.indent-white.ensures.value i)
    ∷ (told (row_cells k (pipe i) (cut false (is i))) ++ piece Whole name.SpaceOrTab (length t - (c.indent-white.ensures.value i + pipe i + length (is i))) ∷ piece Exit (c.row_name-2.ensures i) (length t) ∷ []))
    ∙ row_told k t
