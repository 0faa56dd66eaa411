use Rattle.markdown_base.proofs.Prelude.{refl}
use Rattle.markdown_base.proofs.configuration.TabSizeDefault.default.Goals as goal

pub returns : goal.returns
returns c = refl
