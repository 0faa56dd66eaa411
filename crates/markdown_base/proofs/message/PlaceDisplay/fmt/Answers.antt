use Rattle.markdown_base.proofs.Prelude.{append_assoc}
use Rattle.markdown_base.proofs.message.PlaceDisplay.fmt.Goals as goal

pub returns-in-Position-clause-writes : goal.returns-in-Position-clause-writes
returns-in-Position-clause-writes g c = λ plain ok. rw c.in-Position.is (simp append_assoc (c.write.ensures.writes plain ok))
