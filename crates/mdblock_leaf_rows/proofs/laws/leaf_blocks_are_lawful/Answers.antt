use Rattle.mdblock_leaf_rows.specs.Laws.Lawful.{flow-lawful}
use Rattle.mdblock_leaf_rows.proofs.laws.leaf_blocks_are_lawful.Goals as goal

pub returns : goal.returns
returns c = flow-lawful
