use Rattle.markdown_base.proofs.Prelude.{refl}
use Rattle.markdown_base.proofs.util.slice.Position.to_indices.Goals as goal

pub returns : goal.returns
returns c = record { indices = refl }
