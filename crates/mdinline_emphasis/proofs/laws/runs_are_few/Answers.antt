use Rattle.mdinline_emphasis.proofs.Ends.{runs-are-few}
use Rattle.mdinline_emphasis.proofs.laws.runs_are_few.Goals as goal

pub returns : goal.returns
returns c = runs-are-few
