use Rattle.mddocument_rules.proofs.LabelTexts.{defined-is-defined, labels-are-written}
use Rattle.mddocument_rules.proofs.laws.labels_are_those_of_definitions.Goals as goal

pub returns-clause-labels : goal.returns-clause-labels
returns-clause-labels c = labels-are-written

pub returns-clause-defined : goal.returns-clause-defined
returns-clause-defined c = defined-is-defined
