use Rattle.mdgfm_literals.proofs.Names.{names-kept}
use Rattle.mdgfm_literals.proofs.laws.literals_keep_names.Goals as goal

pub returns : goal.returns
returns c = names-kept
