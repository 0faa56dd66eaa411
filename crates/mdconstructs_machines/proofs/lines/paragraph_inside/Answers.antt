use Rattle.mdconstructs_machines.proofs.Prelude.{◌≡◌, Some, refl, ap, sight_of, class_of, line_ending, line_byte, paragraph_inside}
use Rattle.mdconstructs_machines.proofs.RowSteps.{by-row}
use Rattle.mdconstructs_machines.proofs.lines.paragraph_inside.Goals as goal

pub returns-in_ok-exit-in-Some-eq10-2 : goal.returns-in_ok-exit-in-Some-eq10-2
returns-in_ok-exit-in-Some-eq10-2 c =
    let e : (sight_of c.args.t.now).current ≡ Some 10 = cc (c.current.ensures, c.in-Some-eq10.is) in
    by-row line_byte paragraph_inside (Some line_ending) c.args.t.now c.exit-in-Some-eq10-2.new.self _ (ap (class_of line_byte) e)
    (record { answered = refl; became = rw c.in_ok-exit-in-Some-eq10.ensures.ok at c.in_ok-exit-in-Some-eq10-2.ensures.ok })
