use Rattle.mdgfm_documents.proofs.Whole.{gfm-is-named}
use Rattle.mdgfm_documents.proofs.laws.gfm_documents_have_names.Goals as goal

pub returns : goal.returns
returns c = gfm-is-named
