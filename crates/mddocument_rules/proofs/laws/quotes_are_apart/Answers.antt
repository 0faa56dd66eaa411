use Rattle.mddocument_rules.proofs.Neighbours.{quotes-are-apart}
use Rattle.mddocument_rules.proofs.laws.quotes_are_apart.Goals as goal

pub returns : goal.returns
returns c = quotes-are-apart
