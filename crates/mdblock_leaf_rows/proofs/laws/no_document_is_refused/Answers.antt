use Rattle.mdblock_leaf_rows.proofs.NoRefusals.{flow-refuses-nothing}
use Rattle.mdblock_leaf_rows.proofs.laws.no_document_is_refused.Goals as goal

pub returns : goal.returns
returns c = flow-refuses-nothing
