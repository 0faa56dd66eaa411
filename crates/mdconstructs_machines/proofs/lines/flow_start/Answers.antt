use Rattle.mdconstructs_machines.proofs.Prelude.{◌≡◌, ◌==◌, Some, cond, false, refl, sym, ap, ◌∙◌, arith, nat_tests, class_of, line_ending, other, line_byte, flow_start}
use Rattle.mdconstructs_machines.proofs.RowSteps.{by-row}
use Rattle.mdconstructs_machines.proofs.lines.flow_start.Goals as goal

pub returns-in_ok-enter-in-Some-2 : goal.returns-in_ok-enter-in-Some-2
returns-in_ok-enter-in-Some-2 c =
    let test = c.in-Some.field-0-test in
    let no : (c.in-Some.field-0 == 10) ≡ false = grind (arith, nat_tests) in
    by-row line_byte flow_start (Some other) c.args.t.now c.enter-in-Some.new.self _
    (ap (class_of line_byte) (sym c.current.ensures ∙ c.in-Some.is) ∙ ap (λ b. Some (cond b line_ending other)) no)
    (record { answered = refl; became = rw c.in_ok-enter-in-Some.ensures.ok at c.in_ok-enter-in-Some-2.ensures.ok })
