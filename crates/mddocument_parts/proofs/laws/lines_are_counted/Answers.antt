use Rattle.mddocument_parts.proofs.Virtual.{lines-are-counted}
use Rattle.mddocument_parts.proofs.laws.lines_are_counted.Goals as goal

pub returns : goal.returns
returns c = lines-are-counted
