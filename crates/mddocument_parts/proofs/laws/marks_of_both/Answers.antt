use Rattle.mddocument_parts.proofs.MarksOfBoth.{marks-of-both}
use Rattle.mddocument_parts.proofs.laws.marks_of_both.Goals as goal

pub returns : goal.returns
returns c = marks-of-both
