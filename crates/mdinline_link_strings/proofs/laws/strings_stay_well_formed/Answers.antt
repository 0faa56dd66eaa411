use Rattle.mdinline_link_strings.proofs.Orders.{stay_well_formed}
use Rattle.mdinline_link_strings.proofs.laws.strings_stay_well_formed.Goals as goal

pub returns : goal.returns
returns c = stay_well_formed
