use Rattle.markdown_base.proofs.Prelude.{refl}
use Rattle.markdown_base.proofs.unist.Point.new.Goals as goal

pub returns : goal.returns
returns c = refl
