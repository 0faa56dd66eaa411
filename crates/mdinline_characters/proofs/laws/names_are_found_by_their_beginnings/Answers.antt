use Rattle.mdinline_characters.proofs.Names.{begins-so, found-so}
use Rattle.mdinline_characters.proofs.laws.names_are_found_by_their_beginnings.Goals as goal

pub returns : goal.returns
returns c = record { sound = begins-so; complete = found-so }
