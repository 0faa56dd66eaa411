use Rattle.mdconstructs_machines.proofs.Prelude.{◌≡◌, Some, refl, ap, rules, sight_of, class_of, line_ending, line_byte}
use Rattle.mdconstructs_tables.specs.Paragraphs.{paragraph_inside}
use Rattle.mdconstructs_machines.proofs.RowSteps.{by-row}
use Rattle.mdconstructs_machines.proofs.paragraphs.paragraph_inside.Goals as goal

pub returns-in_ok-exit-in-Some-eq10 : goal.returns-in_ok-exit-in-Some-eq10
returns-in_ok-exit-in-Some-eq10 g c =
    let e : (sight_of c.args.t.now).current ≡ Some 10 = cc (c.current.ensures, c.in-Some-eq10.is) in
    by-row line_byte paragraph_inside (Some line_ending) c.args.t.now _ _ (ap (class_of line_byte) e)
    (record { answered = refl; became = search rules })
