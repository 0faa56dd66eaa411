use Rattle.mdinline_characters.proofs.Prelude.{character_references}
use Rattle.mdinline_characters.proofs.Orders.{strictly_sorted}
use Rattle.mdinline_characters.proofs.Tables.{listed_in_order}
use Rattle.mdinline_characters.proofs.laws.names_are_in_order.Goals as goal

pub returns : goal.returns
returns c = strictly_sorted character_references listed_in_order
