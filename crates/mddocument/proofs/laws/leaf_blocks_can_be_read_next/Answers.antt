use Rattle.mddocument.proofs.FlowChains.Blocks.{blocks-leave-ready}
use Rattle.mddocument.proofs.laws.leaf_blocks_can_be_read_next.Goals as goal

pub returns : goal.returns
returns c = blocks-leave-ready
