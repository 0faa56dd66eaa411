use Rattle.mdblock_leaf_blocks.proofs.Marks.LeafSpans.{flow-accounts}
use Rattle.mdblock_leaf_blocks.proofs.laws.leaf_blocks_account_for_each_byte.Goals as goal

pub returns : goal.returns
returns c = flow-accounts
