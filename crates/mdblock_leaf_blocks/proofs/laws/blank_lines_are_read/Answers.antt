use Rattle.mdblock_leaf_blocks.proofs.Blocks.BlankReads.{blank-lines-read}
use Rattle.mdblock_leaf_blocks.proofs.laws.blank_lines_are_read.Goals as goal

pub returns : goal.returns
returns c = blank-lines-read
