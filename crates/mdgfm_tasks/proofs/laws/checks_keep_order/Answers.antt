use Rattle.mdgfm_tasks.proofs.Forward.{forward-kept}
use Rattle.mdgfm_tasks.proofs.laws.checks_keep_order.Goals as goal

pub returns : goal.returns
returns c = forward-kept
