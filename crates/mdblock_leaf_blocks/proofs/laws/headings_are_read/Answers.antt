use Rattle.mdblock_leaf_blocks.proofs.Blocks.HeadingReads.{headings-read}
use Rattle.mdblock_leaf_blocks.proofs.laws.headings_are_read.Goals as goal

pub returns : goal.returns
returns c = headings-read
