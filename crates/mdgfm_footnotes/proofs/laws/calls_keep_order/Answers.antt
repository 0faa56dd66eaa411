use Rattle.mdgfm_footnotes.proofs.Ordered.{order-kept}
use Rattle.mdgfm_footnotes.proofs.laws.calls_keep_order.Goals as goal

pub returns : goal.returns
returns c = order-kept
