use Rattle.mddocument_parts.proofs.Rests.{rests-cut-blocks}
use Rattle.mddocument_parts.proofs.laws.rests_cut_blocks.Goals as goal

pub returns : goal.returns
returns c = rests-cut-blocks
