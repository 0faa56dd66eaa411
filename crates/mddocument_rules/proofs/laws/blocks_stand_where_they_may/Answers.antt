use Rattle.mddocument_rules.proofs.Blocks.{blocks-stand}
use Rattle.mddocument_rules.proofs.laws.blocks_stand_where_they_may.Goals as goal

pub returns : goal.returns
returns c = blocks-stand
