use Rattle.mddocument_laws.proofs.DocumentReferences.{references-of-documents-end}
use Rattle.mddocument_laws.proofs.ReferenceSpelling.{references-are-spelled}
use Rattle.mddocument_laws.proofs.laws.character_references_end_behind_their_semicolon.Goals as goal

pub returns-clause-documents : goal.returns-clause-documents
returns-clause-documents c = references-of-documents-end

pub returns-clause-spelled : goal.returns-clause-spelled
returns-clause-spelled c = references-are-spelled
