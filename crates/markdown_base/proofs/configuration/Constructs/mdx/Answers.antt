use Rattle.markdown_base.proofs.Prelude.{refl}
use Rattle.markdown_base.proofs.configuration.Constructs.mdx.Goals as goal

pub returns : goal.returns
returns c = rw c.default.ensures refl
