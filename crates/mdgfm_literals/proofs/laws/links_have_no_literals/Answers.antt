use Rattle.mdgfm_literals.proofs.Unchanged.{links-stay}
use Rattle.mdgfm_literals.proofs.laws.links_have_no_literals.Goals as goal

pub returns : goal.returns
returns c = links-stay
