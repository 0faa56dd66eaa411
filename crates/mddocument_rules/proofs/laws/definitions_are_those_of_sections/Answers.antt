use Rattle.mddocument_rules.proofs.DefinitionEvents.{definitions-are-of-sections, definitions-have-labels}
use Rattle.mddocument_rules.proofs.LabelStrings.{labels-are-of-sections}
use Rattle.mddocument_rules.proofs.laws.definitions_are_those_of_sections.Goals as goal

pub returns-clause-sections : goal.returns-clause-sections
returns-clause-sections c = definitions-are-of-sections

pub returns-clause-strings : goal.returns-clause-strings
returns-clause-strings c = labels-are-of-sections

pub returns-clause-labels : goal.returns-clause-labels
returns-clause-labels c = definitions-have-labels
