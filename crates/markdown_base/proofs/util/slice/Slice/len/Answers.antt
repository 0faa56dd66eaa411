use Rattle.markdown_base.proofs.Prelude.{refl}
use Rattle.markdown_base.proofs.util.slice.Slice.len.Goals as goal

pub returns : goal.returns
returns c = record { all = refl }
