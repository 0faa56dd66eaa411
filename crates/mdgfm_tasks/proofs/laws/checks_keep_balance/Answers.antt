use Rattle.mdgfm_tasks.proofs.Balance.{balance-kept}
use Rattle.mdgfm_tasks.proofs.laws.checks_keep_balance.Goals as goal

pub returns : goal.returns
returns c = balance-kept
