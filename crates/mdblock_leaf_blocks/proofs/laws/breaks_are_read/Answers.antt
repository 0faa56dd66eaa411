use Rattle.mdblock_leaf_blocks.proofs.Blocks.BreakReads.{breaks-read}
use Rattle.mdblock_leaf_blocks.proofs.laws.breaks_are_read.Goals as goal

pub returns : goal.returns
returns c = breaks-read
