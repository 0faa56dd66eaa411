use Rattle.mddocument_rules.proofs.DefinitionsApart.{definitions-apart, definitions-linear}
use Rattle.mddocument_rules.proofs.laws.no_definition_is_in_a_definition.Goals as goal

pub returns-clause-documents : goal.returns-clause-documents
returns-clause-documents c = definitions-apart

pub returns-clause-linear : goal.returns-clause-linear
returns-clause-linear c = definitions-linear
