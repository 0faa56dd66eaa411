use Rattle.mddocument_rules.proofs.LeafBlocks.{leaf-blocks-stand}
use Rattle.mddocument_rules.proofs.Skeletons.{skeletons-stand}
use Rattle.mddocument_rules.proofs.laws.parts_stand_where_they_may.Goals as goal

pub returns-clause-leaf_blocks : goal.returns-clause-leaf_blocks
returns-clause-leaf_blocks c = leaf-blocks-stand

pub returns-clause-skeletons : goal.returns-clause-skeletons
returns-clause-skeletons c = skeletons-stand
