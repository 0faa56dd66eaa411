use Rattle.mddocument_rules.proofs.DefinedReferences.{references-are-defined}
use Rattle.mddocument_rules.proofs.laws.references_are_defined.Goals as goal

pub returns : goal.returns
returns c = references-are-defined
