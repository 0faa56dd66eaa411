use Rattle.mdgfm_footnotes.proofs.Unchanged.{balance-kept}
use Rattle.mdgfm_footnotes.proofs.laws.calls_keep_balance.Goals as goal

pub returns : goal.returns
returns c = balance-kept
