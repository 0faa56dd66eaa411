use Rattle.mddocument_rules.proofs.ReferenceStrings.{reference-labels-stay}
use Rattle.mddocument_rules.proofs.TextReferences.{own-labels-are-written, references-of-chains-are-defined, references-of-texts-are-defined}
use Rattle.mddocument_rules.proofs.laws.references_of_texts_are_defined.Goals as goal

pub returns-clause-labels : goal.returns-clause-labels
returns-clause-labels c = own-labels-are-written

pub returns-clause-texts : goal.returns-clause-texts
returns-clause-texts c = references-of-texts-are-defined

pub returns-clause-chains : goal.returns-clause-chains
returns-clause-chains c = references-of-chains-are-defined

pub returns-clause-strings : goal.returns-clause-strings
returns-clause-strings c = reference-labels-stay
