use Rattle.mdinline_constructs.proofs.Prelude.{HtmlTextEnd, HtmlTextTagOpen, HtmlTextTagOpenBetween, arith, false, html_ends, html_goes_on, html_line_ends, is_greater_than, is_slash, is_tag_name_byte, is_tag_white, nat_tests, no_html, passes, refl, rules, sees, sight_of, when, ◌≡◌, ◌∙◌, ◌==◌}
use Rattle.mdinline_constructs.proofs.HtmlTexts.Picked.{does-by}
use Rattle.mdinline_constructs.proofs.HtmlTexts.Refused.{refused-plain, test-fails}
use Rattle.mdinline_constructs.proofs.html_tag.html_text_tag_open.Goals as goal

pub returns-in_default : goal.returns-in_default
returns-in_default g c =
    let t = c.args.t.now in
    let plain : passes (λ b. b == 10) (sight_of t).current ≡ false = first_of (search rules, grind (arith, nat_tests)) in
    let e0 : passes is_tag_name_byte (sight_of t).current ≡ false = first_of (search rules, grind (arith, nat_tests)) in
    let e1 : passes is_tag_white (sight_of t).current ≡ false = first_of (search rules, grind (arith, nat_tests)) in
    let e2 : passes is_slash (sight_of t).current ≡ false = first_of (search rules, grind (arith, nat_tests)) in
    let e3 : passes is_greater_than (sight_of t).current ≡ false = first_of (search rules, grind (arith, nat_tests)) in
    does-by
    (refused-plain t (html_line_ends 197) (when (sees is_tag_name_byte) (html_goes_on HtmlTextTagOpen) (when (sees is_tag_white) (html_goes_on HtmlTextTagOpenBetween) (when (sees is_slash) (html_goes_on HtmlTextEnd) (when (sees is_greater_than) html_ends no_html)))) plain
    (test-fails t is_tag_name_byte (html_goes_on HtmlTextTagOpen) (when (sees is_tag_white) (html_goes_on HtmlTextTagOpenBetween) (when (sees is_slash) (html_goes_on HtmlTextEnd) (when (sees is_greater_than) html_ends no_html))) e0
    ∙ test-fails t is_tag_white (html_goes_on HtmlTextTagOpenBetween) (when (sees is_slash) (html_goes_on HtmlTextEnd) (when (sees is_greater_than) html_ends no_html)) e1
    ∙ test-fails t is_slash (html_goes_on HtmlTextEnd) (when (sees is_greater_than) html_ends no_html) e2
    ∙ test-fails t is_greater_than html_ends no_html e3))
    (record { answered = refl; became = refl })
