use Rattle.mdinline_constructs.proofs.Prelude.{HtmlTextCdataOpenInside, HtmlTextCommentOpenInside, HtmlTextMarkInside, Next, arith, closed_by, consume, false, html_goes_on, is_ascii_alphabetic, nat_tests, no_declaration, no_html, passes, refl, row, rules, sees, sight_of, size_b_is, when, write, ◌≡◌, ◌∙◌, ◌==◌, ◌∷◌, []}
use Rattle.mdinline_constructs.proofs.HtmlTexts.Picked.{does-by}
use Rattle.mdinline_constructs.proofs.HtmlTexts.Refused.{refused-any, test-fails}
use Rattle.mdinline_constructs.proofs.html_marked.declaration_open.Goals as goal

pub returns-in_default : goal.returns-in_default
returns-in_default g c =
    let t = c.args.t.now in
    let e0 : passes is_ascii_alphabetic (sight_of t).current ≡ false = first_of (search rules, grind (arith, nat_tests)) in
    let e1 : passes (λ b. b == 45) (sight_of t).current ≡ false = first_of (search rules, grind (arith, nat_tests)) in
    let e2 : passes (λ b. b == 91) (sight_of t).current ≡ false = first_of (search rules, grind (arith, nat_tests)) in
    does-by
    (refused-any t (when (sees is_ascii_alphabetic) (when no_declaration no_html (row (write (closed_by 0 0 0) ∷ consume ∷ []) (Next HtmlTextMarkInside))) (when (sees (λ b. b == 45)) (html_goes_on HtmlTextCommentOpenInside) (when (sees (λ b. b == 91)) (row (write (size_b_is 0) ∷ consume ∷ []) (Next HtmlTextCdataOpenInside)) no_html)))
    (test-fails t is_ascii_alphabetic (when no_declaration no_html (row (write (closed_by 0 0 0) ∷ consume ∷ []) (Next HtmlTextMarkInside))) (when (sees (λ b. b == 45)) (html_goes_on HtmlTextCommentOpenInside) (when (sees (λ b. b == 91)) (row (write (size_b_is 0) ∷ consume ∷ []) (Next HtmlTextCdataOpenInside)) no_html)) e0
    ∙ test-fails t (λ b. b == 45) (html_goes_on HtmlTextCommentOpenInside) (when (sees (λ b. b == 91)) (row (write (size_b_is 0) ∷ consume ∷ []) (Next HtmlTextCdataOpenInside)) no_html) e1
    ∙ test-fails t (λ b. b == 91) (row (write (size_b_is 0) ∷ consume ∷ []) (Next HtmlTextCdataOpenInside)) no_html e2))
    (record { answered = refl; became = refl })
