use Rattle.mdinline_emphasis.proofs.Beside.Neighbours.{pairs-beside}
use Rattle.mdinline_emphasis.proofs.laws.neighbours_of_pairs.Goals as goal

pub returns : goal.returns
returns c = pairs-beside
