use Rattle.mdblock_leaf_blocks.proofs.Marks.BlocksFormed.{blocks-are-formed}
use Rattle.mdblock_leaf_blocks.proofs.laws.leaf_blocks_are_well_formed.Goals as goal

pub returns : goal.returns
returns c = blocks-are-formed
