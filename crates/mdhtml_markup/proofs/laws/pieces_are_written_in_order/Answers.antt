use Rattle.mdhtml_markup.proofs.Orders.{written-in-order}
use Rattle.mdhtml_markup.proofs.laws.pieces_are_written_in_order.Goals as goal

pub returns : goal.returns
returns c = written-in-order
