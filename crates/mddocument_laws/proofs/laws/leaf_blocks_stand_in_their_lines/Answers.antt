use Rattle.mddocument_laws.proofs.BlockPlaces.{blocks-stand-in-lines, leaf-blocks-stand-in-texts}
use Rattle.mddocument_laws.proofs.laws.leaf_blocks_stand_in_their_lines.Goals as goal

pub returns-clause-blocks : goal.returns-clause-blocks
returns-clause-blocks c = blocks-stand-in-lines

pub returns-clause-texts : goal.returns-clause-texts
returns-clause-texts c = leaf-blocks-stand-in-texts
