use Rattle.mdblock_leaf_rows.proofs.QuietLooks.{looks-quiet}
use Rattle.mdblock_leaf_rows.proofs.laws.looks_are_quiet.Goals as goal

pub returns : goal.returns
returns c = looks-quiet
