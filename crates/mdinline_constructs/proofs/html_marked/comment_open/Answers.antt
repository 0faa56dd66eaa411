use Rattle.mdinline_constructs.proofs.Prelude.{HtmlTextMarkClose, Next, arith, closed_by, consume, false, nat_tests, no_comment, no_html, passes, refl, row, rules, sees, sight_of, when, write, ◌≡◌, ◌==◌, ◌∷◌, []}
use Rattle.mdinline_constructs.proofs.HtmlTexts.Picked.{does-by}
use Rattle.mdinline_constructs.proofs.HtmlTexts.Refused.{refused-any, test-fails}
use Rattle.mdinline_constructs.proofs.html_marked.comment_open.Goals as goal

pub returns-in_default : goal.returns-in_default
returns-in_default g c =
    let t = c.args.t.now in
    let e0 : passes (λ b. b == 45) (sight_of t).current ≡ false = first_of (search rules, grind (arith, nat_tests)) in
    does-by
    (refused-any t (when (sees (λ b. b == 45)) (when no_comment no_html (row (write (closed_by 45 2 2) ∷ consume ∷ []) (Next HtmlTextMarkClose))) no_html)
    (test-fails t (λ b. b == 45) (when no_comment no_html (row (write (closed_by 45 2 2) ∷ consume ∷ []) (Next HtmlTextMarkClose))) no_html e0))
    (record { answered = refl; became = refl })
