use Rattle.mdblock_leaf_blocks.proofs.Marks.ToldEdits.{edits-give-names}
use Rattle.mdblock_leaf_blocks.proofs.laws.edits_give_names.Goals as goal

pub returns : goal.returns
returns c = edits-give-names
