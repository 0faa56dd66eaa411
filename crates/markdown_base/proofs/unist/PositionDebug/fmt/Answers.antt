use Rattle.markdown_base.proofs.Prelude.{append_assoc}
use Rattle.markdown_base.proofs.unist.PositionDebug.fmt.Goals as goal

pub returns : goal.returns
returns g c = record { writes = λ plain ok. simp append_assoc (search (c.write.ensures.writes plain ok)) }
