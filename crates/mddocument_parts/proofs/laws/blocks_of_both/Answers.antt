use Rattle.mddocument_parts.proofs.Both.{blocks-of-both}
use Rattle.mddocument_parts.proofs.laws.blocks_of_both.Goals as goal

pub returns : goal.returns
returns c = blocks-of-both
