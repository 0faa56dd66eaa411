use Rattle.mddocument.proofs.FlowChains.Blocks.{blocks-read-next}
use Rattle.mddocument.proofs.FlowChains.Ready.{flow-readable}
use Rattle.mddocument.proofs.laws.chains_of_leaf_blocks_can_be_read.Goals as goal

pub returns : goal.returns
returns c = record { documents = flow-readable; texts = blocks-read-next }
