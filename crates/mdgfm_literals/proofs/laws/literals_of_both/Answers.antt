use Rattle.mdgfm_literals.proofs.Both.{of-both}
use Rattle.mdgfm_literals.proofs.laws.literals_of_both.Goals as goal

pub returns : goal.returns
returns c = of-both
