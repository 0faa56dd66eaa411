use Rattle.mdinline_constructs.proofs.Prelude.{◌≡◌, ◌==◌, [], ◌∷◌, false, refl, sym, ◌∙◌, arith, nat_tests, Next, HtmlTextDeclarationOpen, HtmlTextMarkInside, row, write, consume, when, closed_by, no_instruction, html_goes_on, no_html, sees}
use Rattle.mdinline_constructs.proofs.HtmlTexts.Picked.{does-by, seen, tested-by}
use Rattle.mdinline_constructs.proofs.html_marked.mark_open.Goals as goal

pub returns-in-Some : goal.returns-in-Some
returns-in-Some g c =
    let t = c.args.t.now in
    let b = c.in-Some.field-0 in
    let is = sym c.current.ensures ∙ c.in-Some.is in
    let plain : (b == 10) ≡ false = grind (arith, nat_tests, c.in-Some.field-0-test) in
    let e0 : (b == 63) ≡ false = grind (arith, nat_tests, c.in-Some.field-0-test) in
    let e1 : (b == 33) ≡ false = grind (arith, nat_tests, c.in-Some.field-0-test) in
    does-by
    (seen t b is no_html (when (sees (λ b. b == 63)) (when no_instruction no_html (row (write (closed_by 63 1 0) ∷ consume ∷ []) (Next HtmlTextMarkInside))) (when (sees (λ b. b == 33)) (html_goes_on HtmlTextDeclarationOpen) no_html)) plain
    ∙ tested-by t b is (λ b. b == 63) (when no_instruction no_html (row (write (closed_by 63 1 0) ∷ consume ∷ []) (Next HtmlTextMarkInside))) (when (sees (λ b. b == 33)) (html_goes_on HtmlTextDeclarationOpen) no_html) false e0
    ∙ tested-by t b is (λ b. b == 33) (html_goes_on HtmlTextDeclarationOpen) no_html false e1)
    (record { answered = refl; became = refl })
