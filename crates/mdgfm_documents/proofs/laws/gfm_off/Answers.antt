use Rattle.mdgfm_documents.proofs.Whole.{off-is-document}
use Rattle.mdgfm_documents.proofs.laws.gfm_off.Goals as goal

pub returns : goal.returns
returns c = off-is-document
