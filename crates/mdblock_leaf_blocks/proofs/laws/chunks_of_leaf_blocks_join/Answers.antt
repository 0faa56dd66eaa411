use Rattle.mdblock_leaf_blocks.proofs.Marks.ChunksJoin.{blocks-join, blocks-meet}
use Rattle.mdblock_leaf_blocks.proofs.laws.chunks_of_leaf_blocks_join.Goals as goal

pub returns : goal.returns
returns c = record { documents = blocks-join; texts = blocks-meet }
