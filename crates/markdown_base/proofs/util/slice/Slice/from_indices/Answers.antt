use Rattle.markdown_base.proofs.Prelude.{refl}
use Rattle.markdown_base.proofs.util.slice.Slice.from_indices.Goals as goal

pub returns : goal.returns
returns c = record { bytes = refl; before = refl; after = refl }
