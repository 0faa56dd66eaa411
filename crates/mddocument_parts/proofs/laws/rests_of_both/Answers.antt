use Rattle.mddocument_parts.proofs.Sections.{rests-of-both}
use Rattle.mddocument_parts.proofs.laws.rests_of_both.Goals as goal

pub returns : goal.returns
returns c = rests-of-both
