use Rattle.mdgfm_documents.proofs.Whole.{gfm-is-in-order, order-kept}
use Rattle.mdgfm_documents.proofs.laws.gfm_documents_are_in_order.Goals as goal

pub returns : goal.returns
returns c = record { kept = order-kept; documents = gfm-is-in-order }
