use Rattle.mdgfm_literals.proofs.OrderLaw.{order-kept}
use Rattle.mdgfm_literals.proofs.laws.literals_keep_order.Goals as goal

pub returns : goal.returns
returns c = order-kept
