use Rattle.mdinline_constructs.proofs.Prelude.{HtmlTextTagCloseStart, HtmlTextTagOpen, arith, false, html_goes_on, is_ascii_alphabetic, is_slash, nat_tests, no_html, passes, refl, rules, sees, sight_of, when, ◌≡◌, ◌∙◌}
use Rattle.mdinline_constructs.proofs.HtmlTexts.Picked.{does-by}
use Rattle.mdinline_constructs.proofs.HtmlTexts.Refused.{refused-any, test-fails}
use Rattle.mdinline_constructs.proofs.html_tag.html_text_open.Goals as goal

pub returns-in_default : goal.returns-in_default
returns-in_default g c =
    let t = c.args.t.now in
    let e0 : passes is_slash (sight_of t).current ≡ false = first_of (search rules, grind (arith, nat_tests)) in
    let e1 : passes is_ascii_alphabetic (sight_of t).current ≡ false = first_of (search rules, grind (arith, nat_tests)) in
    does-by
    (refused-any t (when (sees is_slash) (html_goes_on HtmlTextTagCloseStart) (when (sees is_ascii_alphabetic) (html_goes_on HtmlTextTagOpen) no_html))
    (test-fails t is_slash (html_goes_on HtmlTextTagCloseStart) (when (sees is_ascii_alphabetic) (html_goes_on HtmlTextTagOpen) no_html) e0
    ∙ test-fails t is_ascii_alphabetic (html_goes_on HtmlTextTagOpen) no_html e1))
    (record { answered = refl; became = refl })
