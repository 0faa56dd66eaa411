use Rattle.mdinline_constructs.proofs.Prelude.{◌≡◌, ◌==◌, true, false, refl, sym, ◌∙◌, arith, rules, nat_tests, HtmlTextTagOpenAttributeValueUnquoted, HtmlTextTagOpenBetween, when, is_greater_than, is_tag_white, is_unquoted, html_ends, html_goes_on, html_line_ends, no_html, sees}
use Rattle.mdinline_constructs.proofs.HtmlTexts.Picked.{does-by, seen, tested-by}
use Rattle.mdinline_constructs.proofs.html_tag.html_text_value_unquoted.Goals as goal

pub returns-then-is_unquoted : goal.returns-then-is_unquoted
returns-then-is_unquoted g c =
    let t = c.args.t.now in
    let b = c.in-Some.byte in
    let is = sym c.current.ensures ∙ c.in-Some.is in
    let plain : (b == 10) ≡ false = grind (arith, nat_tests, c.in-Some.byte-test) in
    let e0 : is_unquoted b ≡ true = sym c.is_unquoted.ensures ∙ c.if-is_unquoted.true in
    does-by
    (seen t b is (html_line_ends 197) (when (sees is_unquoted) (html_goes_on HtmlTextTagOpenAttributeValueUnquoted) (when (sees is_tag_white) (html_goes_on HtmlTextTagOpenBetween) (when (sees is_greater_than) html_ends no_html))) plain
    ∙ tested-by t b is is_unquoted (html_goes_on HtmlTextTagOpenAttributeValueUnquoted) (when (sees is_tag_white) (html_goes_on HtmlTextTagOpenBetween) (when (sees is_greater_than) html_ends no_html)) true e0)
    (search rules)

pub returns-else-is_unquoted : goal.returns-else-is_unquoted
returns-else-is_unquoted g c =
    let t = c.args.t.now in
    let b = c.in-Some.byte in
    let is = sym c.current.ensures ∙ c.in-Some.is in
    let plain : (b == 10) ≡ false = grind (arith, nat_tests, c.in-Some.byte-test) in
    let e0 : is_unquoted b ≡ false = sym c.is_unquoted.ensures ∙ c.if-is_unquoted.false in
    let e1 : is_tag_white b ≡ false = grind (arith, nat_tests, c.in-Some.byte-test) in
    let e2 : is_greater_than b ≡ false = grind (arith, nat_tests, c.in-Some.byte-test) in
    does-by
    (seen t b is (html_line_ends 197) (when (sees is_unquoted) (html_goes_on HtmlTextTagOpenAttributeValueUnquoted) (when (sees is_tag_white) (html_goes_on HtmlTextTagOpenBetween) (when (sees is_greater_than) html_ends no_html))) plain
    ∙ tested-by t b is is_unquoted (html_goes_on HtmlTextTagOpenAttributeValueUnquoted) (when (sees is_tag_white) (html_goes_on HtmlTextTagOpenBetween) (when (sees is_greater_than) html_ends no_html)) false e0
    ∙ tested-by t b is is_tag_white (html_goes_on HtmlTextTagOpenBetween) (when (sees is_greater_than) html_ends no_html) false e1
    ∙ tested-by t b is is_greater_than html_ends no_html false e2)
    (record { answered = refl; became = refl })
