use Rattle.mdevents_program.proofs.Prelude.{◌∙◌, arith, Point}
use Rattle.mdevents_program.proofs.Points.{whole-point}
use Rattle.mdevents_program.proofs.last_point.LastPoint.new.Goals as goal

abbrev start : Point
start = record { line = 1; column = 1; index = 0; vs = 0 }

pub invariant_of-result : goal.invariant_of-result
invariant_of-result c =
    let line = c.write_line-column_at.ensures in let column = c.write_column-count.ensures in
    (line.most, omega (arith, line.most, column.most), column.front ∙ line.text, whole-point start _ _ line.text column.text)
