use Rattle.markdown_edits.proofs.Prelude.{refl}
use Rattle.markdown_edits.proofs.replacement.Replacement.append.Goals as goal

pub returns : goal.returns
returns c = record { remove = refl; additions = c.in_ok-extend_from_slice.ensures.items; err = tt }
