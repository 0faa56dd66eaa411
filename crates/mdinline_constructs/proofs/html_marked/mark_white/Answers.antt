use Rattle.mdinline_constructs.proofs.Prelude.{HtmlTextData, HtmlTextMarkInside, HtmlTextMarkWhite, Retry, SpaceOrTab, arith, enter, exit, false, html_goes_on, is_white, mark_fails, nat_tests, row, rules, sees, sym, when, ◌≡◌, ◌∙◌, ◌==◌, ◌∷◌, []}
use Rattle.mdinline_constructs.proofs.HtmlMarks.Picked.{look-seen}
use Rattle.mdinline_constructs.proofs.HtmlTexts.Picked.{does-by, tested-by}
use Rattle.mdinline_constructs.proofs.html_marked.mark_white.Goals as goal

pub returns-in_ok-enter-in-Some : goal.returns-in_ok-enter-in-Some
returns-in_ok-enter-in-Some g c =
    let t = c.args.t.now in
    let b = c.in-Some.field-0 in
    let is = sym c.current.ensures ∙ c.in-Some.is in
    let plain : (b == 10) ≡ false = grind (arith, nat_tests, c.in-Some.field-0-test) in
    let other : is_white b ≡ false = grind (arith, nat_tests, c.in-Some.field-0-test) in
    does-by
    (look-seen t b is mark_fails (when (sees is_white) (html_goes_on HtmlTextMarkWhite) (row (exit SpaceOrTab ∷ enter HtmlTextData ∷ []) (Retry HtmlTextMarkInside))) plain
    ∙ tested-by t b is is_white (html_goes_on HtmlTextMarkWhite) (row (exit SpaceOrTab ∷ enter HtmlTextData ∷ []) (Retry HtmlTextMarkInside)) false other)
    (search rules)
