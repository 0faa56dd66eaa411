use Rattle.mdinline_constructs.proofs.Prelude.{◌≡◌, ◌==◌, [], ◌∷◌, true, false, refl, sym, ◌∙◌, arith, rules, nat_tests, Next, HtmlTextTagOpenAttributeValueBefore, HtmlTextTagOpenAttributeValueQuoted, HtmlTextTagOpenAttributeValueUnquoted, row, write, consume, when, is_double_quote, is_single_quote, is_tag_white, is_unquoted, quote_is, html_goes_on, html_line_ends, no_html, sees}
use Rattle.mdinline_constructs.proofs.HtmlTexts.Picked.{does-by, seen, tested-by}
use Rattle.mdinline_constructs.proofs.html_tag.html_text_value_before.Goals as goal

pub returns-then-is_unquoted : goal.returns-then-is_unquoted
returns-then-is_unquoted g c =
    let t = c.args.t.now in
    let b = c.in-Some.byte in
    let is = sym c.current.ensures ∙ c.in-Some.is in
    let plain : (b == 10) ≡ false = grind (arith, nat_tests, c.in-Some.byte-test) in
    let e0 : is_tag_white b ≡ false = grind (arith, nat_tests, c.in-Some.byte-test) in
    let e1 : is_double_quote b ≡ false = grind (arith, nat_tests, c.in-Some.byte-test) in
    let e2 : is_single_quote b ≡ false = grind (arith, nat_tests, c.in-Some.byte-test) in
    let e3 : is_unquoted b ≡ true = sym c.is_unquoted.ensures ∙ c.if-is_unquoted.true in
    does-by
    (seen t b is (html_line_ends 200) (when (sees is_tag_white) (html_goes_on HtmlTextTagOpenAttributeValueBefore) (when (sees is_double_quote) (row (write (quote_is 34) ∷ consume ∷ []) (Next HtmlTextTagOpenAttributeValueQuoted)) (when (sees is_single_quote) (row (write (quote_is 39) ∷ consume ∷ []) (Next HtmlTextTagOpenAttributeValueQuoted)) (when (sees is_unquoted) (html_goes_on HtmlTextTagOpenAttributeValueUnquoted) no_html)))) plain
    ∙ tested-by t b is is_tag_white (html_goes_on HtmlTextTagOpenAttributeValueBefore) (when (sees is_double_quote) (row (write (quote_is 34) ∷ consume ∷ []) (Next HtmlTextTagOpenAttributeValueQuoted)) (when (sees is_single_quote) (row (write (quote_is 39) ∷ consume ∷ []) (Next HtmlTextTagOpenAttributeValueQuoted)) (when (sees is_unquoted) (html_goes_on HtmlTextTagOpenAttributeValueUnquoted) no_html))) false e0
    ∙ tested-by t b is is_double_quote (row (write (quote_is 34) ∷ consume ∷ []) (Next HtmlTextTagOpenAttributeValueQuoted)) (when (sees is_single_quote) (row (write (quote_is 39) ∷ consume ∷ []) (Next HtmlTextTagOpenAttributeValueQuoted)) (when (sees is_unquoted) (html_goes_on HtmlTextTagOpenAttributeValueUnquoted) no_html)) false e1
    ∙ tested-by t b is is_single_quote (row (write (quote_is 39) ∷ consume ∷ []) (Next HtmlTextTagOpenAttributeValueQuoted)) (when (sees is_unquoted) (html_goes_on HtmlTextTagOpenAttributeValueUnquoted) no_html) false e2
    ∙ tested-by t b is is_unquoted (html_goes_on HtmlTextTagOpenAttributeValueUnquoted) no_html true e3)
    (search rules)

pub returns-else-is_unquoted : goal.returns-else-is_unquoted
returns-else-is_unquoted g c =
    let t = c.args.t.now in
    let b = c.in-Some.byte in
    let is = sym c.current.ensures ∙ c.in-Some.is in
    let plain : (b == 10) ≡ false = grind (arith, nat_tests, c.in-Some.byte-test) in
    let e0 : is_tag_white b ≡ false = grind (arith, nat_tests, c.in-Some.byte-test) in
    let e1 : is_double_quote b ≡ false = grind (arith, nat_tests, c.in-Some.byte-test) in
    let e2 : is_single_quote b ≡ false = grind (arith, nat_tests, c.in-Some.byte-test) in
    let e3 : is_unquoted b ≡ false = sym c.is_unquoted.ensures ∙ c.if-is_unquoted.false in
    does-by
    (seen t b is (html_line_ends 200) (when (sees is_tag_white) (html_goes_on HtmlTextTagOpenAttributeValueBefore) (when (sees is_double_quote) (row (write (quote_is 34) ∷ consume ∷ []) (Next HtmlTextTagOpenAttributeValueQuoted)) (when (sees is_single_quote) (row (write (quote_is 39) ∷ consume ∷ []) (Next HtmlTextTagOpenAttributeValueQuoted)) (when (sees is_unquoted) (html_goes_on HtmlTextTagOpenAttributeValueUnquoted) no_html)))) plain
    ∙ tested-by t b is is_tag_white (html_goes_on HtmlTextTagOpenAttributeValueBefore) (when (sees is_double_quote) (row (write (quote_is 34) ∷ consume ∷ []) (Next HtmlTextTagOpenAttributeValueQuoted)) (when (sees is_single_quote) (row (write (quote_is 39) ∷ consume ∷ []) (Next HtmlTextTagOpenAttributeValueQuoted)) (when (sees is_unquoted) (html_goes_on HtmlTextTagOpenAttributeValueUnquoted) no_html))) false e0
    ∙ tested-by t b is is_double_quote (row (write (quote_is 34) ∷ consume ∷ []) (Next HtmlTextTagOpenAttributeValueQuoted)) (when (sees is_single_quote) (row (write (quote_is 39) ∷ consume ∷ []) (Next HtmlTextTagOpenAttributeValueQuoted)) (when (sees is_unquoted) (html_goes_on HtmlTextTagOpenAttributeValueUnquoted) no_html)) false e1
    ∙ tested-by t b is is_single_quote (row (write (quote_is 39) ∷ consume ∷ []) (Next HtmlTextTagOpenAttributeValueQuoted)) (when (sees is_unquoted) (html_goes_on HtmlTextTagOpenAttributeValueUnquoted) no_html) false e2
    ∙ tested-by t b is is_unquoted (html_goes_on HtmlTextTagOpenAttributeValueUnquoted) no_html false e3)
    (record { answered = refl; became = refl })
