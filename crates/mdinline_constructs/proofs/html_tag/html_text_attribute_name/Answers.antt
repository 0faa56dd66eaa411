use Rattle.mdinline_constructs.proofs.Prelude.{HtmlTextEnd, HtmlTextTagOpenAttributeName, HtmlTextTagOpenAttributeNameAfter, HtmlTextTagOpenAttributeValueBefore, Some, arith, false, html_ends, html_goes_on, html_line_ends, is_attribute_name_byte, is_equals_sign, is_greater_than, is_slash, is_tag_white, nat_tests, no_html, passes, refl, rules, sees, sight_of, true, when, ◌≡◌, ◌∙◌, ◌==◌, ℕ}
use Rattle.mdinline_constructs.proofs.HtmlTexts.Picked.{does-by, seen, tested-by}
use Rattle.mdinline_constructs.proofs.HtmlTexts.Refused.{refused-plain, test-fails}
use Rattle.mdinline_constructs.proofs.html_tag.html_text_attribute_name.Goals as goal

pub returns-in-Some-eq45 : goal.returns-in-Some-eq45
returns-in-Some-eq45 g c =
    let t = c.args.t.now in
    let b : ℕ = c.in-Some-eq45.field-0 in
    let waits : (sight_of t).current ≡ Some b = search rules in
    let plain : (b == 10) ≡ false = first_of (search rules, grind (arith, nat_tests)) in
    let is : is_attribute_name_byte b ≡ true = first_of (search rules, grind (arith, nat_tests)) in
    does-by
    (seen t b waits (html_line_ends 199) (when (sees is_attribute_name_byte) (html_goes_on HtmlTextTagOpenAttributeName) (when (sees is_tag_white) (html_goes_on HtmlTextTagOpenAttributeNameAfter) (when (sees is_equals_sign) (html_goes_on HtmlTextTagOpenAttributeValueBefore) (when (sees is_slash) (html_goes_on HtmlTextEnd) (when (sees is_greater_than) html_ends no_html))))) plain
    ∙ tested-by t b waits is_attribute_name_byte (html_goes_on HtmlTextTagOpenAttributeName) (when (sees is_tag_white) (html_goes_on HtmlTextTagOpenAttributeNameAfter) (when (sees is_equals_sign) (html_goes_on HtmlTextTagOpenAttributeValueBefore) (when (sees is_slash) (html_goes_on HtmlTextEnd) (when (sees is_greater_than) html_ends no_html)))) true is)
    (search rules)

pub returns-in_default : goal.returns-in_default
returns-in_default g c =
    let t = c.args.t.now in
    let plain : passes (λ b. b == 10) (sight_of t).current ≡ false = first_of (search rules, grind (arith, nat_tests)) in
    let e0 : passes is_attribute_name_byte (sight_of t).current ≡ false = first_of (search rules, grind (arith, nat_tests)) in
    let e1 : passes is_tag_white (sight_of t).current ≡ false = first_of (search rules, grind (arith, nat_tests)) in
    let e2 : passes is_equals_sign (sight_of t).current ≡ false = first_of (search rules, grind (arith, nat_tests)) in
    let e3 : passes is_slash (sight_of t).current ≡ false = first_of (search rules, grind (arith, nat_tests)) in
    let e4 : passes is_greater_than (sight_of t).current ≡ false = first_of (search rules, grind (arith, nat_tests)) in
    does-by
    (refused-plain t (html_line_ends 199) (when (sees is_attribute_name_byte) (html_goes_on HtmlTextTagOpenAttributeName) (when (sees is_tag_white) (html_goes_on HtmlTextTagOpenAttributeNameAfter) (when (sees is_equals_sign) (html_goes_on HtmlTextTagOpenAttributeValueBefore) (when (sees is_slash) (html_goes_on HtmlTextEnd) (when (sees is_greater_than) html_ends no_html))))) plain
    (test-fails t is_attribute_name_byte (html_goes_on HtmlTextTagOpenAttributeName) (when (sees is_tag_white) (html_goes_on HtmlTextTagOpenAttributeNameAfter) (when (sees is_equals_sign) (html_goes_on HtmlTextTagOpenAttributeValueBefore) (when (sees is_slash) (html_goes_on HtmlTextEnd) (when (sees is_greater_than) html_ends no_html)))) e0
    ∙ test-fails t is_tag_white (html_goes_on HtmlTextTagOpenAttributeNameAfter) (when (sees is_equals_sign) (html_goes_on HtmlTextTagOpenAttributeValueBefore) (when (sees is_slash) (html_goes_on HtmlTextEnd) (when (sees is_greater_than) html_ends no_html))) e1
    ∙ test-fails t is_equals_sign (html_goes_on HtmlTextTagOpenAttributeValueBefore) (when (sees is_slash) (html_goes_on HtmlTextEnd) (when (sees is_greater_than) html_ends no_html)) e2
    ∙ test-fails t is_slash (html_goes_on HtmlTextEnd) (when (sees is_greater_than) html_ends no_html) e3
    ∙ test-fails t is_greater_than html_ends no_html e4))
    (record { answered = refl; became = refl })
