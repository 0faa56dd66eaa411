use Rattle.mdinline_constructs.proofs.Prelude.{◌≡◌, ◌==◌, true, false, refl, sym, ◌∙◌, arith, rules, nat_tests, HtmlTextEnd, HtmlTextTagOpenAttributeName, HtmlTextTagOpenAttributeNameAfter, HtmlTextTagOpenAttributeValueBefore, when, is_greater_than, begins_attribute_name, is_equals_sign, is_slash, is_tag_white, html_ends, html_goes_on, html_line_ends, no_html, sees}
use Rattle.mdinline_constructs.proofs.HtmlTexts.Picked.{does-by, seen, tested-by}
use Rattle.mdinline_constructs.proofs.html_tag.html_text_attribute_name_after.Goals as goal

pub returns-then-begins_attribute_name : goal.returns-then-begins_attribute_name
returns-then-begins_attribute_name g c =
    let t = c.args.t.now in
    let b = c.in-Some.byte in
    let is = sym c.current.ensures ∙ c.in-Some.is in
    let plain : (b == 10) ≡ false = grind (arith, nat_tests, c.in-Some.byte-test) in
    let e0 : is_tag_white b ≡ false = grind (arith, nat_tests, c.in-Some.byte-test) in
    let e1 : is_equals_sign b ≡ false = grind (arith, nat_tests, c.in-Some.byte-test) in
    let e2 : begins_attribute_name b ≡ true = sym c.begins_attribute_name.ensures ∙ c.if-begins_attribute_name.true in
    does-by
    (seen t b is (html_line_ends 199) (when (sees is_tag_white) (html_goes_on HtmlTextTagOpenAttributeNameAfter) (when (sees is_equals_sign) (html_goes_on HtmlTextTagOpenAttributeValueBefore) (when (sees begins_attribute_name) (html_goes_on HtmlTextTagOpenAttributeName) (when (sees is_slash) (html_goes_on HtmlTextEnd) (when (sees is_greater_than) html_ends no_html))))) plain
    ∙ tested-by t b is is_tag_white (html_goes_on HtmlTextTagOpenAttributeNameAfter) (when (sees is_equals_sign) (html_goes_on HtmlTextTagOpenAttributeValueBefore) (when (sees begins_attribute_name) (html_goes_on HtmlTextTagOpenAttributeName) (when (sees is_slash) (html_goes_on HtmlTextEnd) (when (sees is_greater_than) html_ends no_html)))) false e0
    ∙ tested-by t b is is_equals_sign (html_goes_on HtmlTextTagOpenAttributeValueBefore) (when (sees begins_attribute_name) (html_goes_on HtmlTextTagOpenAttributeName) (when (sees is_slash) (html_goes_on HtmlTextEnd) (when (sees is_greater_than) html_ends no_html))) false e1
    ∙ tested-by t b is begins_attribute_name (html_goes_on HtmlTextTagOpenAttributeName) (when (sees is_slash) (html_goes_on HtmlTextEnd) (when (sees is_greater_than) html_ends no_html)) true e2)
    (search rules)

pub returns-else-begins_attribute_name : goal.returns-else-begins_attribute_name
returns-else-begins_attribute_name g c =
    let t = c.args.t.now in
    let b = c.in-Some.byte in
    let is = sym c.current.ensures ∙ c.in-Some.is in
    let plain : (b == 10) ≡ false = grind (arith, nat_tests, c.in-Some.byte-test) in
    let e0 : is_tag_white b ≡ false = grind (arith, nat_tests, c.in-Some.byte-test) in
    let e1 : is_equals_sign b ≡ false = grind (arith, nat_tests, c.in-Some.byte-test) in
    let e2 : begins_attribute_name b ≡ false = sym c.begins_attribute_name.ensures ∙ c.if-begins_attribute_name.false in
    let e3 : is_slash b ≡ false = grind (arith, nat_tests, c.in-Some.byte-test) in
    let e4 : is_greater_than b ≡ false = grind (arith, nat_tests, c.in-Some.byte-test) in
    does-by
    (seen t b is (html_line_ends 199) (when (sees is_tag_white) (html_goes_on HtmlTextTagOpenAttributeNameAfter) (when (sees is_equals_sign) (html_goes_on HtmlTextTagOpenAttributeValueBefore) (when (sees begins_attribute_name) (html_goes_on HtmlTextTagOpenAttributeName) (when (sees is_slash) (html_goes_on HtmlTextEnd) (when (sees is_greater_than) html_ends no_html))))) plain
    ∙ tested-by t b is is_tag_white (html_goes_on HtmlTextTagOpenAttributeNameAfter) (when (sees is_equals_sign) (html_goes_on HtmlTextTagOpenAttributeValueBefore) (when (sees begins_attribute_name) (html_goes_on HtmlTextTagOpenAttributeName) (when (sees is_slash) (html_goes_on HtmlTextEnd) (when (sees is_greater_than) html_ends no_html)))) false e0
    ∙ tested-by t b is is_equals_sign (html_goes_on HtmlTextTagOpenAttributeValueBefore) (when (sees begins_attribute_name) (html_goes_on HtmlTextTagOpenAttributeName) (when (sees is_slash) (html_goes_on HtmlTextEnd) (when (sees is_greater_than) html_ends no_html))) false e1
    ∙ tested-by t b is begins_attribute_name (html_goes_on HtmlTextTagOpenAttributeName) (when (sees is_slash) (html_goes_on HtmlTextEnd) (when (sees is_greater_than) html_ends no_html)) false e2
    ∙ tested-by t b is is_slash (html_goes_on HtmlTextEnd) (when (sees is_greater_than) html_ends no_html) false e3
    ∙ tested-by t b is is_greater_than html_ends no_html false e4)
    (record { answered = refl; became = refl })
