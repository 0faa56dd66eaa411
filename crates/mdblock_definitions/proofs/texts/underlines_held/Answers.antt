use Rattle.std.proofs.Common.{◌≡◌, ◌∙◌, ap, sym, true}
use Rattle.std.specs.Prelude.{◌&&◌, is_some, not}
use Rattle.mdblock_leaf_blocks.specs.LineKinds.{underline_rank}
use Rattle.mdblock_containers.specs.Rows.{has_none, is_paragraph}
use Rattle.mdblock_containers.specs.Views.{leaf_of}
use Rattle.mdblock_definitions.specs.Rows.{is_used_up}
use Rattle.mdblock_definitions.proofs.HeldTexts.{looked-none}
use Rattle.mdblock_definitions.proofs.texts.underlines_held.Goals as goal

pub returns-then-not-has_bytes-clause-value : goal.returns-then-not-has_bytes-clause-value
returns-then-not-has_bytes-clause-value g c =
    let on = c.args.on.now in
    sym (looked-none on.definition (c.args.stays && is_paragraph (leaf_of c.args.leaf)) (is_some (underline_rank on c.args.rest.now)) c.args.text.now (sym c.has_bytes.ensures ∙ c.if-not-has_bytes.true))

pub returns-clause-value : goal.returns-clause-value
returns-clause-value g c =
    let on = c.args.on.now in
    let text = c.args.text.now in
    let some : not (has_none text) ≡ true = sym c.has_bytes.ensures ∙ c.if-not-has_bytes.false in
    c.underlines_nothing.ensures.value
    ∙ ap (λ n. on.definition && ((c.args.stays && is_paragraph (leaf_of c.args.leaf)) && (is_some (underline_rank on c.args.rest.now) && (n && is_used_up text)))) (sym some)
