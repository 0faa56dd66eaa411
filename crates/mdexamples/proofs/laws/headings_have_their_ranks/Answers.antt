use Rattle.mdexamples.proofs.Ranks.{ranks}
use Rattle.mdexamples.proofs.laws.headings_have_their_ranks.Goals as goal

pub returns : goal.returns
returns c = ranks
