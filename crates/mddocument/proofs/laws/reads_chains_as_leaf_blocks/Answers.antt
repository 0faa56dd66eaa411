use Rattle.mddocument.proofs.FlowChains.Blocks.{chains-read-blocks}
use Rattle.mddocument.proofs.laws.reads_chains_as_leaf_blocks.Goals as goal

pub returns : goal.returns
returns c = chains-read-blocks
