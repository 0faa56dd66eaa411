use Rattle.std.proofs.Common.{List, [], ◌∷◌, ◌++◌, ◌∙◌, ◌+◌, ◌-◌, ◌≡◌, drop, length, ap}
use Rattle.markdown_base.specs.declared.event.Name.TheVariants as name
use Rattle.mdconstructs_tables.specs.Breaks.{is_white}
use Rattle.mdblock_leaf_blocks.specs.LineKinds.{trimmed}
use Rattle.mdblock_tables.specs.declared.pieces.Piece.{Piece}
use Rattle.mdblock_tables.specs.declared.pieces.Step.TheVariants.{Enter, Whole, Exit}
use Rattle.mdblock_tables.specs.Pieces.{piece, told}
use Rattle.mdblock_tables.specs.TablePieces.{content_within}
use Rattle.mdblock_tables.specs.Tables.{content}
use Rattle.mdblock_tables.proofs.PieceLemmas.{adds}
use Rattle.mdblock_tables.proofs.RowLemmas.{cell_told}
use Rattle.mdblock_tables.proofs.rows.push_cell.Goals as goal

pub returns-clause-pieces : goal.returns-clause-pieces
returns-clause-pieces g c =
    let all = c.args.pieces.now.items in
    let mid = c.push_content.new.pieces.items in
    let k = c.args.kind in
    let t = c.args.cell.now in
    let size = c.args.divider + length t + c.args.closing in
    let w = c.indent-white.result in
    let text = c.trimmed-text.result.now in
    let is : text ≡ content t = c.trimmed-text.ensures.value ∙ ap (trimmed is_white) (c.behind.ensures.value ∙ ap (λ n. drop n t) c.indent-white.ensures.value) in
    let d : List Piece = piece Whole name.GfmTableCellDivider c.args.divider ∷ [] in
    let r : List Piece = piece Whole name.SpaceOrTab (length t - (w + length text)) ∷ [] in
    let l : List Piece = piece Whole name.GfmTableCellDivider c.args.closing ∷ [] in
    let enter : List Piece = piece Enter c.cell_name.result size ∷ [] in
    let enter_text : List Piece = piece Enter c.content_name.result (length text) ∷ [] in
    let exit_text : List Piece = piece Exit c.content_name-2.result (length text) ∷ [] in
    let exit : List Piece = piece Exit c.cell_name-2.result size ∷ [] in
    let white : List Piece = piece Whole name.SpaceOrTab w ∷ [] in
    let inner : List Piece = told (content_within k text) in
    let s2 = adds all enter d c.in_ok-push.ensures c.in_ok-push-2.ensures in
    let s3 = adds all (enter ++ d) white s2 c.in_ok-push-3.ensures in
    let s4 = adds all (enter ++ (d ++ white)) enter_text s3 c.in_ok-push-4.ensures in
    let front = enter ++ (d ++ (white ++ enter_text)) in
    let s6 = adds mid exit_text r c.in_ok-push-5.ensures c.in_ok-push-6.ensures in
    let s7 = adds mid (exit_text ++ r) l s6 c.in_ok-push-7.ensures in
    let s8 = adds mid (exit_text ++ (r ++ l)) exit s7 c.in_ok-push-8.ensures in
    let back = exit_text ++ (r ++ (l ++ exit)) in
    adds all front (inner ++ back) s4 (adds c.push-4.new.pieces.items inner back c.in_ok-push_content.ensures.pieces s8)
    ∙ (λ i. c.args.pieces.now.items
    ++ (piece Enter (c.cell_name.ensures i) size ∷ piece Whole name.GfmTableCellDivider c.args.divider ∷ piece Whole name.SpaceOrTab (c.indent-white.ensures.value i) ∷ piece Enter (c.content_name.ensures i) (length (is i))
    ∷ (told (content_within k (is i)) ++ piece Exit (c.content_name-2.ensures i) (length (is i)) ∷ piece Whole name.SpaceOrTab (length t - (c.indent-white.ensures.value i + length (is i)))
    ∷ piece Whole name.GfmTableCellDivider c.args.closing ∷ piece Exit (c.cell_name-2.ensures i) size ∷ [])))
    ∙ ap (λ x. c.args.pieces.now.items ++ x) (cell_told k c.args.divider t c.args.closing)
