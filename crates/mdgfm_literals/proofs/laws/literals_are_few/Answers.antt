use Rattle.mdgfm_literals.proofs.Few.{events-few}
use Rattle.mdgfm_literals.proofs.laws.literals_are_few.Goals as goal

pub returns : goal.returns
returns c = events-few
