use Rattle.std.proofs.Common.{ap, sym}
use Rattle.std.specs.Prelude.{true}
use Rattle.mdhtml_document.specs.Html.{task_box}
use Rattle.mdhtml_document.proofs.text_shapes.box_of.Goals as goal
use Rattle.mdhtml_markup.specs.Pieces.{written}

pub returns-then-is_checked : goal.returns-then-is_checked
returns-then-is_checked c = ap (λ b. written true (task_box b)) (sym c.if-is_checked.true)

pub returns-else-is_checked : goal.returns-else-is_checked
returns-else-is_checked c = ap (λ b. written true (task_box b)) (sym c.if-is_checked.false)
