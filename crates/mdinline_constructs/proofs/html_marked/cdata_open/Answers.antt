use Rattle.mdinline_constructs.proofs.Prelude.{◌≡◌, ◌==◌, [], ◌∷◌, true, false, refl, sym, ◌∙◌, arith, rules, nat_tests, Next, HtmlTextCdataOpenInside, HtmlTextMarkInside, sight_of, row, write, consume, when, size_b_grows, closed_by, ends_cdata_mark, in_cdata_mark, no_cdata, no_html}
use Rattle.mdinline_constructs.proofs.HtmlTexts.Picked.{does-by, seen}
use Rattle.mdinline_constructs.proofs.HtmlMarks.Picked.{known-by}
use Rattle.mdinline_constructs.proofs.html_marked.cdata_open.Goals as goal

pub returns-then-in_cdata_mark : goal.returns-then-in_cdata_mark
returns-then-in_cdata_mark g c =
    let t = c.args.t.now in
    let b = c.in-Some.field-0 in
    let is = sym c.current.ensures ∙ c.in-Some.is in
    let plain : (b == 10) ≡ false = grind (arith, nat_tests, c.in-Some.field-0-test) in
    let e0 : in_cdata_mark t.given (sight_of t) t.configuration ≡ true = sym c.in_cdata_mark.ensures ∙ c.if-in_cdata_mark.true in
    does-by
    (seen t b is no_html (when in_cdata_mark (row (write size_b_grows ∷ consume ∷ []) (Next HtmlTextCdataOpenInside)) (when ends_cdata_mark (when no_cdata no_html (row (write (closed_by 93 2 0) ∷ consume ∷ []) (Next HtmlTextMarkInside))) no_html)) plain
    ∙ known-by t in_cdata_mark (row (write size_b_grows ∷ consume ∷ []) (Next HtmlTextCdataOpenInside)) (when ends_cdata_mark (when no_cdata no_html (row (write (closed_by 93 2 0) ∷ consume ∷ []) (Next HtmlTextMarkInside))) no_html) true e0)
    (search rules)

pub returns-then-no_cdata : goal.returns-then-no_cdata
returns-then-no_cdata g c =
    let t = c.args.t.now in
    let b = c.in-Some.field-0 in
    let is = sym c.current.ensures ∙ c.in-Some.is in
    let plain : (b == 10) ≡ false = grind (arith, nat_tests, c.in-Some.field-0-test) in
    let e0 : in_cdata_mark t.given (sight_of t) t.configuration ≡ false = sym c.in_cdata_mark.ensures ∙ c.if-in_cdata_mark.false in
    let e1 : ends_cdata_mark t.given (sight_of t) t.configuration ≡ true = sym c.ends_cdata_mark.ensures ∙ c.if-ends_cdata_mark.true in
    let e2 : no_cdata t.given (sight_of t) t.configuration ≡ true = sym c.no_cdata.ensures ∙ c.if-no_cdata.true in
    does-by
    (seen t b is no_html (when in_cdata_mark (row (write size_b_grows ∷ consume ∷ []) (Next HtmlTextCdataOpenInside)) (when ends_cdata_mark (when no_cdata no_html (row (write (closed_by 93 2 0) ∷ consume ∷ []) (Next HtmlTextMarkInside))) no_html)) plain
    ∙ known-by t in_cdata_mark (row (write size_b_grows ∷ consume ∷ []) (Next HtmlTextCdataOpenInside)) (when ends_cdata_mark (when no_cdata no_html (row (write (closed_by 93 2 0) ∷ consume ∷ []) (Next HtmlTextMarkInside))) no_html) false e0
    ∙ known-by t ends_cdata_mark (when no_cdata no_html (row (write (closed_by 93 2 0) ∷ consume ∷ []) (Next HtmlTextMarkInside))) no_html true e1
    ∙ known-by t no_cdata no_html (row (write (closed_by 93 2 0) ∷ consume ∷ []) (Next HtmlTextMarkInside)) true e2)
    (record { answered = refl; became = refl })

pub returns-else-no_cdata : goal.returns-else-no_cdata
returns-else-no_cdata g c =
    let t = c.args.t.now in
    let b = c.in-Some.field-0 in
    let is = sym c.current.ensures ∙ c.in-Some.is in
    let plain : (b == 10) ≡ false = grind (arith, nat_tests, c.in-Some.field-0-test) in
    let e0 : in_cdata_mark t.given (sight_of t) t.configuration ≡ false = sym c.in_cdata_mark.ensures ∙ c.if-in_cdata_mark.false in
    let e1 : ends_cdata_mark t.given (sight_of t) t.configuration ≡ true = sym c.ends_cdata_mark.ensures ∙ c.if-ends_cdata_mark.true in
    let e2 : no_cdata t.given (sight_of t) t.configuration ≡ false = sym c.no_cdata.ensures ∙ c.if-no_cdata.false in
    does-by
    (seen t b is no_html (when in_cdata_mark (row (write size_b_grows ∷ consume ∷ []) (Next HtmlTextCdataOpenInside)) (when ends_cdata_mark (when no_cdata no_html (row (write (closed_by 93 2 0) ∷ consume ∷ []) (Next HtmlTextMarkInside))) no_html)) plain
    ∙ known-by t in_cdata_mark (row (write size_b_grows ∷ consume ∷ []) (Next HtmlTextCdataOpenInside)) (when ends_cdata_mark (when no_cdata no_html (row (write (closed_by 93 2 0) ∷ consume ∷ []) (Next HtmlTextMarkInside))) no_html) false e0
    ∙ known-by t ends_cdata_mark (when no_cdata no_html (row (write (closed_by 93 2 0) ∷ consume ∷ []) (Next HtmlTextMarkInside))) no_html true e1
    ∙ known-by t no_cdata no_html (row (write (closed_by 93 2 0) ∷ consume ∷ []) (Next HtmlTextMarkInside)) false e2)
    (search rules)

pub returns-else-ends_cdata_mark : goal.returns-else-ends_cdata_mark
returns-else-ends_cdata_mark g c =
    let t = c.args.t.now in
    let b = c.in-Some.field-0 in
    let is = sym c.current.ensures ∙ c.in-Some.is in
    let plain : (b == 10) ≡ false = grind (arith, nat_tests, c.in-Some.field-0-test) in
    let e0 : in_cdata_mark t.given (sight_of t) t.configuration ≡ false = sym c.in_cdata_mark.ensures ∙ c.if-in_cdata_mark.false in
    let e1 : ends_cdata_mark t.given (sight_of t) t.configuration ≡ false = sym c.ends_cdata_mark.ensures ∙ c.if-ends_cdata_mark.false in
    does-by
    (seen t b is no_html (when in_cdata_mark (row (write size_b_grows ∷ consume ∷ []) (Next HtmlTextCdataOpenInside)) (when ends_cdata_mark (when no_cdata no_html (row (write (closed_by 93 2 0) ∷ consume ∷ []) (Next HtmlTextMarkInside))) no_html)) plain
    ∙ known-by t in_cdata_mark (row (write size_b_grows ∷ consume ∷ []) (Next HtmlTextCdataOpenInside)) (when ends_cdata_mark (when no_cdata no_html (row (write (closed_by 93 2 0) ∷ consume ∷ []) (Next HtmlTextMarkInside))) no_html) false e0
    ∙ known-by t ends_cdata_mark (when no_cdata no_html (row (write (closed_by 93 2 0) ∷ consume ∷ []) (Next HtmlTextMarkInside))) no_html false e1)
    (record { answered = refl; became = refl })
