use Rattle.mdinline_constructs.proofs.Prelude.{◌≡◌, ◌==◌, false, refl, sym, ◌∙◌, arith, nat_tests, HtmlTextEnd, HtmlTextTagOpenBetween, when, is_greater_than, is_slash, is_tag_white, html_ends, html_goes_on, html_line_ends, no_html, sees}
use Rattle.mdinline_constructs.proofs.HtmlTexts.Picked.{does-by, seen, tested-by}
use Rattle.mdinline_constructs.proofs.html_tag.html_text_value_quoted_after.Goals as goal

pub returns-in-Some : goal.returns-in-Some
returns-in-Some g c =
    let t = c.args.t.now in
    let b = c.in-Some.field-0 in
    let is = sym c.current.ensures ∙ c.in-Some.is in
    let plain : (b == 10) ≡ false = grind (arith, nat_tests, c.in-Some.field-0-test) in
    let e0 : is_tag_white b ≡ false = grind (arith, nat_tests, c.in-Some.field-0-test) in
    let e1 : is_slash b ≡ false = grind (arith, nat_tests, c.in-Some.field-0-test) in
    let e2 : is_greater_than b ≡ false = grind (arith, nat_tests, c.in-Some.field-0-test) in
    does-by
    (seen t b is (html_line_ends 197) (when (sees is_tag_white) (html_goes_on HtmlTextTagOpenBetween) (when (sees is_slash) (html_goes_on HtmlTextEnd) (when (sees is_greater_than) html_ends no_html))) plain
    ∙ tested-by t b is is_tag_white (html_goes_on HtmlTextTagOpenBetween) (when (sees is_slash) (html_goes_on HtmlTextEnd) (when (sees is_greater_than) html_ends no_html)) false e0
    ∙ tested-by t b is is_slash (html_goes_on HtmlTextEnd) (when (sees is_greater_than) html_ends no_html) false e1
    ∙ tested-by t b is is_greater_than html_ends no_html false e2)
    (record { answered = refl; became = refl })
