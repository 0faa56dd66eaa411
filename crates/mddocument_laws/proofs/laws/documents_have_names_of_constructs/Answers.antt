use Rattle.mddocument_laws.proofs.DocumentNames.{documents-named, off-left-out}
use Rattle.mddocument_laws.proofs.laws.documents_have_names_of_constructs.Goals as goal

pub returns-clause-on : goal.returns-clause-on
returns-clause-on c = documents-named

pub returns-clause-off : goal.returns-clause-off
returns-clause-off c = off-left-out
