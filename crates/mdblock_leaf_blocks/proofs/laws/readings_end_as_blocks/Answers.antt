use Rattle.mdblock_leaf_blocks.proofs.Whole.FlowEnds.{flow-ends}
use Rattle.mdblock_leaf_blocks.proofs.Whole.WholeFlow.{whole-flow-is-read}
use Rattle.mdblock_leaf_blocks.proofs.laws.readings_end_as_blocks.Goals as goal

pub returns : goal.returns
returns c = flow-ends whole-flow-is-read
