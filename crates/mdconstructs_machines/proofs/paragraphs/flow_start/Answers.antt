use Rattle.mdconstructs_machines.proofs.Prelude.{◌≡◌, Some, refl, ap, sight_of, class_of, line_ending, line_byte}
use Rattle.mdconstructs_tables.specs.Paragraphs.{flow_start}
use Rattle.mdconstructs_machines.proofs.RowSteps.{by-row}
use Rattle.mdconstructs_machines.proofs.paragraphs.flow_start.Goals as goal

pub returns-in_ok-marker-in-Some-eq10 : goal.returns-in_ok-marker-in-Some-eq10
returns-in_ok-marker-in-Some-eq10 g c =
    let e : (sight_of c.args.t.now).current ≡ Some 10 = cc (c.current.ensures, c.in-Some-eq10.is) in
    by-row line_byte flow_start (Some line_ending) c.args.t.now c.marker.new.t _ (ap (class_of line_byte) e)
    (record { answered = refl; became = c.in_ok-marker-in-Some-eq10.ensures })
