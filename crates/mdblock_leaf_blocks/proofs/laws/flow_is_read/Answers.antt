use Rattle.mdblock_leaf_blocks.proofs.Whole.WholeFlow.{whole-flow-is-read}
use Rattle.mdblock_leaf_blocks.proofs.laws.flow_is_read.Goals as goal

pub returns : goal.returns
returns c = whole-flow-is-read
