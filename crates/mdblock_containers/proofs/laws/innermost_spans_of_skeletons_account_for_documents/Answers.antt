use Rattle.mdblock_containers.proofs.Innermost.Parts.{skeletons_account}
use Rattle.mdblock_containers.proofs.laws.innermost_spans_of_skeletons_account_for_documents.Goals as goal

pub returns : goal.returns
returns c = skeletons_account
