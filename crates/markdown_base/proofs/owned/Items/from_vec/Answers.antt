use Rattle.markdown_base.proofs.Prelude.{refl}
use Rattle.markdown_base.proofs.owned.Items.from_vec.Goals as goal

pub returns : goal.returns
returns c = λ c'. refl
