use Rattle.std.proofs.Common.{List, [], ◌∷◌, ◌++◌, ◌∙◌, ◌+◌, ◌-◌, length, ap}
use Rattle.markdown_base.specs.declared.event.Name.TheVariants as name
use Rattle.mdblock_leaf_blocks.specs.LineKinds.{run}
use Rattle.mdblock_tables.specs.declared.pieces.Piece.{Piece}
use Rattle.mdblock_tables.specs.declared.pieces.Step.TheVariants.{Whole}
use Rattle.mdblock_tables.specs.Pieces.{piece}
use Rattle.mdblock_tables.proofs.PieceLemmas.{adds}
use Rattle.mdblock_tables.proofs.RowLemmas.{value_told}
use Rattle.mdblock_tables.proofs.rows.push_value.Goals as goal

pub returns-clause-pieces : goal.returns-clause-pieces
returns-clause-pieces g c =
    let t = c.args.text.now in
    let all = c.args.pieces.now.items in
    let b = c.one_if-before.result in
    let f = c.hyphens-filler.result in
    let first : List Piece = piece Whole name.GfmTableDelimiterMarker b ∷ [] in
    let second : List Piece = piece Whole name.GfmTableDelimiterFiller f ∷ [] in
    let third : List Piece = piece Whole name.GfmTableDelimiterMarker (length t - (b + f)) ∷ [] in
    adds all (first ++ second) third (adds all first second c.in_ok-push.ensures c.in_ok-push-2.ensures) c.in_ok-push-3.ensures
    ∙ ap (λ l. c.args.pieces.now.items ++ l) (value_told t b f c.one_if-before.ensures.value (c.hyphens-filler.ensures.value ∙ ap (run 45) c.behind.ensures.value))
