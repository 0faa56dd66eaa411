use Rattle.mdinline_constructs.proofs.Prelude.{◌≡◌, ◌==◌, true, false, cond, sym, ap, ◌∙◌, arith, rules, nat_tests, HtmlTextTagOpenAttributeValueQuoted, HtmlTextTagOpenAttributeValueQuotedAfter, sight_of, when, picked, step_of, quote_waits, html_goes_on, html_line_ends}
use Rattle.mdinline_constructs.proofs.HtmlTexts.Picked.{does-by, seen}
use Rattle.mdinline_constructs.proofs.html_tag.html_text_value_quoted.Goals as goal

pub returns-then-quote_waits : goal.returns-then-quote_waits
returns-then-quote_waits g c =
    let t = c.args.t.now in
    let s = sight_of t in
    let k = t.configuration in
    let b = c.in-Some.field-0 in
    let is = sym c.current.ensures ∙ c.in-Some.is in
    let plain : (b == 10) ≡ false = grind (arith, nat_tests, c.in-Some.field-0-test) in
    let e : quote_waits t.given s k ≡ true = sym c.quote_waits.ensures ∙ c.if-quote_waits.true in
    does-by
    (seen t b is (html_line_ends 201) (when quote_waits (html_goes_on HtmlTextTagOpenAttributeValueQuotedAfter) (html_goes_on HtmlTextTagOpenAttributeValueQuoted)) plain
    ∙ ap (λ v. step_of (cond v (picked (html_goes_on HtmlTextTagOpenAttributeValueQuotedAfter) t.given s k) (picked (html_goes_on HtmlTextTagOpenAttributeValueQuoted) t.given s k)) s k) e)
    (search rules)

pub returns-else-quote_waits : goal.returns-else-quote_waits
returns-else-quote_waits g c =
    let t = c.args.t.now in
    let s = sight_of t in
    let k = t.configuration in
    let b = c.in-Some.field-0 in
    let is = sym c.current.ensures ∙ c.in-Some.is in
    let plain : (b == 10) ≡ false = grind (arith, nat_tests, c.in-Some.field-0-test) in
    let e : quote_waits t.given s k ≡ false = sym c.quote_waits.ensures ∙ c.if-quote_waits.false in
    does-by
    (seen t b is (html_line_ends 201) (when quote_waits (html_goes_on HtmlTextTagOpenAttributeValueQuotedAfter) (html_goes_on HtmlTextTagOpenAttributeValueQuoted)) plain
    ∙ ap (λ v. step_of (cond v (picked (html_goes_on HtmlTextTagOpenAttributeValueQuotedAfter) t.given s k) (picked (html_goes_on HtmlTextTagOpenAttributeValueQuoted) t.given s k)) s k) e)
    (search rules)
