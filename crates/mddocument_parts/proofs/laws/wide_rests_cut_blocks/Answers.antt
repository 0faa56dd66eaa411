use Rattle.mddocument_parts.proofs.Rests.{wide-rests-cut-blocks}
use Rattle.mddocument_parts.proofs.laws.wide_rests_cut_blocks.Goals as goal

pub returns : goal.returns
returns c = wide-rests-cut-blocks
