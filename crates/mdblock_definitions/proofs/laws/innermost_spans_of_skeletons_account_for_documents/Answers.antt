use Rattle.mdblock_definitions.proofs.SectionSpans.{skeletons-account}
use Rattle.mdblock_definitions.proofs.laws.innermost_spans_of_skeletons_account_for_documents.Goals as goal

pub returns : goal.returns
returns c = skeletons-account
