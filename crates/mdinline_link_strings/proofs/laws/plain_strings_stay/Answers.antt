use Rattle.mdinline_link_strings.proofs.Plain.{plain_stays}
use Rattle.mdinline_link_strings.proofs.laws.plain_strings_stay.Goals as goal

pub returns : goal.returns
returns c = plain_stays
