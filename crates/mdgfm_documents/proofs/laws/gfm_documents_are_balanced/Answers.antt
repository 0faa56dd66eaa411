use Rattle.mdgfm_documents.proofs.Whole.{gfm-is-balanced}
use Rattle.mdgfm_documents.proofs.laws.gfm_documents_are_balanced.Goals as goal

pub returns : goal.returns
returns c = gfm-is-balanced
