use Rattle.mdblock_leaf_rows.proofs.TagNames.{block-told, raw-told}
use Rattle.mdblock_leaf_rows.proofs.laws.tag_names_are_told_apart.Goals as goal

pub returns : goal.returns
returns c = record { blocks = block-told; raw = raw-told }
