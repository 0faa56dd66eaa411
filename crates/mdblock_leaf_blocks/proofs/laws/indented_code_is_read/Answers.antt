use Rattle.mdblock_leaf_blocks.proofs.Blocks.CodeReads.{indented-code-read}
use Rattle.mdblock_leaf_blocks.proofs.laws.indented_code_is_read.Goals as goal

pub returns : goal.returns
returns c = indented-code-read
