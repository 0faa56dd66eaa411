use Rattle.mdblock_leaf_blocks.proofs.Fenced.Whole.{fenced-code-read}
use Rattle.mdblock_leaf_blocks.proofs.laws.fenced_code_is_read.Goals as goal

pub returns : goal.returns
returns c = fenced-code-read
