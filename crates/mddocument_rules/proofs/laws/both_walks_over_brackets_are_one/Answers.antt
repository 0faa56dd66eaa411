use Rattle.mddocument_rules.proofs.LinksApart.{ends-have-brackets, labels-are-one, walks-are-one}
use Rattle.mddocument_rules.proofs.OwnLabels.{own-labels-are-asked}
use Rattle.mddocument_rules.proofs.laws.both_walks_over_brackets_are_one.Goals as goal

pub returns-clause-walks : goal.returns-clause-walks
returns-clause-walks c = walks-are-one

pub returns-clause-ends : goal.returns-clause-ends
returns-clause-ends c = ends-have-brackets

pub returns-clause-labels : goal.returns-clause-labels
returns-clause-labels c = labels-are-one

pub returns-clause-asked : goal.returns-clause-asked
returns-clause-asked c = own-labels-are-asked
