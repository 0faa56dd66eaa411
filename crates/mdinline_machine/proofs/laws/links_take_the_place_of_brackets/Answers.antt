use Rattle.mdinline_machine.proofs.Resolved.{makes-links}
use Rattle.mdinline_machine.proofs.laws.links_take_the_place_of_brackets.Goals as goal

pub returns : goal.returns
returns c = makes-links
