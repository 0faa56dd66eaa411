use Rattle.markdown_base.proofs.Prelude.{refl}
use Rattle.markdown_base.proofs.owned.OwnedText.from_string.Goals as goal

pub returns : goal.returns
returns c = refl
