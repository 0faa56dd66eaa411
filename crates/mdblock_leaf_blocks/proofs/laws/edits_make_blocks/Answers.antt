use Rattle.mdblock_leaf_blocks.proofs.Marks.ToldBlocks.{edits-make-blocks}
use Rattle.mdblock_leaf_blocks.proofs.laws.edits_make_blocks.Goals as goal

pub returns : goal.returns
returns c = edits-make-blocks
