use Rattle.mdevents_program.proofs.Prelude.{◌∙◌, arith}
use Rattle.mdevents_program.proofs.Points.{whole-point}
use Rattle.mdevents_program.proofs.last_point.LastPoint.move_to.Goals as goal

pub invariant_of-self : goal.invariant_of-self
invariant_of-self c =
    let line = c.go_to_line-self-inside.ensures in let column = c.write_column-self-inside.ensures in
    (line.most, omega (arith, line.most, column.most), column.front ∙ line.text, whole-point c.args.point.now _ _ line.text column.text)
