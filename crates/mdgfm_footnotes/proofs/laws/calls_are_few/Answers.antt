use Rattle.mdgfm_footnotes.proofs.Unchanged.{events-few}
use Rattle.mdgfm_footnotes.proofs.laws.calls_are_few.Goals as goal

pub returns : goal.returns
returns c = events-few
