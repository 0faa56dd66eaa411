use Rattle.mdinline_link_tails.proofs.Looks.Linear.{looks-are-linear}
use Rattle.mdinline_link_tails.proofs.laws.looks_are_linear.Goals as goal

pub returns : goal.returns
returns c = looks-are-linear
