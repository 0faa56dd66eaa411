use Rattle.mdinline_constructs.proofs.Prelude.{arith, false, refl, sym, true, ◌==◌, ◌∙◌, ◌≡◌, nat_tests, ended-in}
use Rattle.mdinline_constructs.proofs.HtmlTexts.Picked.{does-by}
use Rattle.mdinline_constructs.proofs.RememberedCode.Rows.{no-tick, open-stepped}
use Rattle.mdinline_constructs.proofs.remembered_code.remembered_open.Goals as goal

pub exit-requires-in-Some : goal.exit-requires-in-Some
exit-requires-in-Some g c =
    let b = c.in-Some.field-0 in
    let other : (b == 96) ≡ false = grind (arith, nat_tests, c.in-Some.field-0-test) in
    (c.requires.ends (ended-in c.args.t.now (no-tick c.args.t.now b (sym c.current.ensures ∙ c.in-Some.is) other)).2).0

pub returns-then-is_hopeless : goal.returns-then-is_hopeless
returns-then-is_hopeless g c =
    let t = c.args.t.now in
    let b = c.in-Some.field-0 in
    let other : (b == 96) ≡ false = grind (arith, nat_tests, c.in-Some.field-0-test) in
    does-by (open-stepped t b (sym c.current.ensures ∙ c.in-Some.is) other true (sym c.is_hopeless.ensures ∙ c.if-is_hopeless.true)) (record { answered = refl; became = refl })

pub returns-in_ok-exit-in-Some : goal.returns-in_ok-exit-in-Some
returns-in_ok-exit-in-Some g c =
    let t = c.args.t.now in
    let b = c.in-Some.field-0 in
    let other : (b == 96) ≡ false = grind (arith, nat_tests, c.in-Some.field-0-test) in
    does-by (open-stepped t b (sym c.current.ensures ∙ c.in-Some.is) other false (sym c.is_hopeless.ensures ∙ c.if-is_hopeless.false)) (record { answered = refl; became = c.in_ok-exit-in-Some.ensures.ok })
