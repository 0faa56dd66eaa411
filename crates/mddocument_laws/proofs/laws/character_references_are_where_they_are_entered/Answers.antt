use Rattle.mddocument_laws.proofs.DocumentReferences.{references-of-documents}
use Rattle.mddocument_laws.proofs.ReferenceKinds.{references-are-written}
use Rattle.mddocument_laws.proofs.ReferencesStand.{references-of-inlines, references-of-strings}
use Rattle.mddocument_laws.proofs.laws.character_references_are_where_they_are_entered.Goals as goal

pub returns-clause-strings : goal.returns-clause-strings
returns-clause-strings c = references-of-strings

pub returns-clause-inline_text : goal.returns-clause-inline_text
returns-clause-inline_text c = references-of-inlines

pub returns-clause-documents : goal.returns-clause-documents
returns-clause-documents c = references-of-documents

pub returns-clause-written : goal.returns-clause-written
returns-clause-written c = references-are-written
