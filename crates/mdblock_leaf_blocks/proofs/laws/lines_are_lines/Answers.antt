use Rattle.mdblock_leaf_blocks.proofs.Lines.Lines.{lines-in-are}
use Rattle.mdblock_leaf_blocks.proofs.laws.lines_are_lines.Goals as goal

pub returns : goal.returns
returns c = lines-in-are
