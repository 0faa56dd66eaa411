use Rattle.mdinline_link_strings.proofs.Orders.{keep_order}
use Rattle.mdinline_link_strings.proofs.laws.strings_keep_order.Goals as goal

pub returns : goal.returns
returns c = keep_order
