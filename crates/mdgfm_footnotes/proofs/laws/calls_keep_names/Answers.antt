use Rattle.mdgfm_footnotes.proofs.Named.{names-kept}
use Rattle.mdgfm_footnotes.proofs.laws.calls_keep_names.Goals as goal

pub returns : goal.returns
returns c = names-kept
