use Rattle.mdhtml_depth.proofs.Kept.{balance-kept}
use Rattle.mdhtml_depth.proofs.laws.limits_keep_balance.Goals as goal

pub returns : goal.returns
returns _ = balance-kept
