use Rattle.mdgfm_tasks.proofs.Names.{names-kept}
use Rattle.mdgfm_tasks.proofs.laws.checks_keep_names.Goals as goal

pub returns : goal.returns
returns c = names-kept
