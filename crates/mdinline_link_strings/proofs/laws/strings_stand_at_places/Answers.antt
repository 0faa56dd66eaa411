use Rattle.mdinline_link_strings.proofs.Places.{stand_at_places}
use Rattle.mdinline_link_strings.proofs.laws.strings_stand_at_places.Goals as goal

pub returns : goal.returns
returns c = stand_at_places
