use Rattle.mddocument_rules.proofs.DocumentStands.{documents-stand}
use Rattle.mddocument_rules.proofs.TextItems.{inline-stands}
use Rattle.mddocument_rules.proofs.laws.spans_stand_where_they_may.Goals as goal

pub returns-clause-texts : goal.returns-clause-texts
returns-clause-texts c = inline-stands

pub returns-clause-documents : goal.returns-clause-documents
returns-clause-documents c = documents-stand
