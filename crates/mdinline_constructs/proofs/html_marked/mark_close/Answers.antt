use Rattle.mdinline_constructs.proofs.Prelude.{◌≡◌, ◌==◌, [], ◌∷◌, Next, HtmlTextMarkInside, consume, row, size_b_is, write, true, false, IfOk, Some, subst, sym, ap, ◌∙◌, arith, rules, nat_tests, HtmlTextMarkClose, sight_of, DoesAll, in_mark, inside_rows, mark_ends}
use Rattle.mdinline_constructs.proofs.HtmlTexts.Picked.{does-by}
use Rattle.mdinline_constructs.proofs.HtmlMarks.Picked.{ends-at, inside-ends, inside-marks, inside-others}
use Rattle.mdinline_constructs.proofs.HtmlTexts.Calls.{html-can-end, line-can-end}
use Rattle.mdinline_constructs.proofs.html_marked.mark_close.Goals as goal

pub mark_line_ends-requires : goal.mark_line_ends-requires
mark_line_ends-requires g c =
    let t = c.args.t.now in
    let e : (sight_of t).current ≡ Some 10 = sym c.current.ensures ∙ c.in-Some-eq10.is ∙ ap Some (grind (arith, nat_tests, c.in-Some-eq10.field-0-test)) in
    line-can-end HtmlTextMarkClose (inside_rows (row (write (size_b_is 0) ∷ consume ∷ []) (Next HtmlTextMarkInside))) t c.requires e

pub html_ends-requires : goal.html_ends-requires
html_ends-requires g c =
    html-can-end HtmlTextMarkClose (inside_rows (row (write (size_b_is 0) ∷ consume ∷ []) (Next HtmlTextMarkInside))) c.args.t.now c.requires (ends-at _ _ (sym c.mark_ends.ensures ∙ c.if-mark_ends.true))

pub returns-then-mark_ends : goal.returns-then-mark_ends
returns-then-mark_ends g c =
    let t = c.args.t.now in
    let b = c.in-Some.field-0 in
    let is = sym c.current.ensures ∙ c.in-Some.is in
    let plain : (b == 10) ≡ false = grind (arith, nat_tests, c.in-Some.field-0-test) in
    let ends : mark_ends t.given (sight_of t) t.configuration ≡ true = sym c.mark_ends.ensures ∙ c.if-mark_ends.true in
    subst (λ s. IfOk c.html_ends.result (DoesAll s t c.html_ends.new.t)) (sym (inside-ends t b is (row (write (size_b_is 0) ∷ consume ∷ []) (Next HtmlTextMarkInside)) plain ends)) c.html_ends.ensures

pub returns-then-in_mark : goal.returns-then-in_mark
returns-then-in_mark g c =
    let t = c.args.t.now in
    let b = c.in-Some.field-0 in
    let is = sym c.current.ensures ∙ c.in-Some.is in
    let plain : (b == 10) ≡ false = grind (arith, nat_tests, c.in-Some.field-0-test) in
    let ends : mark_ends t.given (sight_of t) t.configuration ≡ false = sym c.mark_ends.ensures ∙ c.if-mark_ends.false in
    let of : in_mark t.given (sight_of t) t.configuration ≡ true = sym c.in_mark.ensures ∙ c.if-in_mark.true in
    does-by (inside-marks t b is (row (write (size_b_is 0) ∷ consume ∷ []) (Next HtmlTextMarkInside)) plain of ends) (search rules)

pub returns-else-in_mark : goal.returns-else-in_mark
returns-else-in_mark g c =
    let t = c.args.t.now in
    let b = c.in-Some.field-0 in
    let is = sym c.current.ensures ∙ c.in-Some.is in
    let plain : (b == 10) ≡ false = grind (arith, nat_tests, c.in-Some.field-0-test) in
    let ends : mark_ends t.given (sight_of t) t.configuration ≡ false = sym c.mark_ends.ensures ∙ c.if-mark_ends.false in
    let of : in_mark t.given (sight_of t) t.configuration ≡ false = sym c.in_mark.ensures ∙ c.if-in_mark.false in
    does-by (inside-others t b is (row (write (size_b_is 0) ∷ consume ∷ []) (Next HtmlTextMarkInside)) plain of ends) (search rules)
