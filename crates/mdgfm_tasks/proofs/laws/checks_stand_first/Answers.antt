use Rattle.mdgfm_tasks.proofs.Few.{checks-are-few}
use Rattle.mdgfm_tasks.proofs.First.{checks-stand-first}
use Rattle.mdgfm_tasks.proofs.laws.checks_stand_first.Goals as goal

pub returns : goal.returns
returns c = record { first = checks-stand-first; few = checks-are-few }
