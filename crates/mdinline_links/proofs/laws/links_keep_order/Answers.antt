use Rattle.mdinline_links.proofs.LinkOrder.{in-order}
use Rattle.mdinline_links.proofs.laws.links_keep_order.Goals as goal

pub returns : goal.returns
returns c = in-order
