use Rattle.mdinline_full_references.proofs.Looks.{looks-are-linear}
use Rattle.mdinline_full_references.proofs.laws.looks_are_linear.Goals as goal

pub returns : goal.returns
returns c = looks-are-linear
