use Rattle.markdown_children.proofs.Prelude.{refl}
use Rattle.markdown_children.proofs.division.part_end.Goals as goal

pub loop-at-init : goal.loop-at-init
loop-at-init c = record { walk = refl; within = c.requires }
