use Rattle.mdgfm_literals.proofs.Unchanged.{balance-kept}
use Rattle.mdgfm_literals.proofs.laws.literals_keep_balance.Goals as goal

pub returns : goal.returns
returns c = balance-kept
