use Rattle.mddocument_parts.proofs.Virtual.{lines-of-both}
use Rattle.mddocument_parts.proofs.laws.lines_of_both.Goals as goal

pub returns : goal.returns
returns c = lines-of-both
