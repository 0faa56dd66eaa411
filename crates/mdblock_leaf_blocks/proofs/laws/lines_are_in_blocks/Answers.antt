use Rattle.mdblock_leaf_blocks.proofs.Marks.Cuts.{leaf-blocks-lines}
use Rattle.mdblock_leaf_blocks.proofs.laws.lines_are_in_blocks.Goals as goal

pub returns : goal.returns
returns c = leaf-blocks-lines
