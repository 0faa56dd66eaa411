use Rattle.mddocument_parts.proofs.MarksOfBoth.{sections-of-both}
use Rattle.mddocument_parts.proofs.laws.sections_of_both.Goals as goal

pub returns : goal.returns
returns c = sections-of-both
