use Rattle.std.proofs.Common.{◌++◌, ℕ, List, ap, ◌∙◌}
use Rattle.std.specs.Char.{is_ascii_whitespace}
use Rattle.std.specs.List.{take_while}
use Rattle.std.specs.Prelude.{codes, not}
use Rattle.mddocument_link_targets.specs.Strings.{decoded}
use Rattle.mdhtml_document.proofs.Steps.{class-written}
use Rattle.mdhtml_markup.specs.Escapes.{escaped}
use Rattle.mdhtml_document.proofs.block_shapes.push_class.Goals as goal

pub returns : goal.returns
returns c =
    let old = c.args.out.now.items in
    let first = λ (t : List ℕ). take_while (λ b. not (is_ascii_whitespace b)) t in
    c.in_ok-extend_from_slice-2.ensures.items
    ∙ ap (λ (x : List ℕ). x ++ codes "\"")
    (c.in_ok-push_escaped.ensures ∙ ap (λ (x : List ℕ). x ++ escaped c.first_word.result.now) c.in_ok-extend_from_slice.ensures.items
    ∙ ap (λ (t : List ℕ). (old ++ codes " class=\"language-") ++ escaped t) (c.first_word.ensures ∙ ap first (c.as_slice.ensures.value ∙ c.in_ok-info.ensures)))
    ∙ class-written old (first (decoded c.args.bytes.now c.args.info.now))
