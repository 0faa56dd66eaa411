use Rattle.limecove.proofs.OfDocuments.{rewritten-are-documents}
use Rattle.limecove.proofs.laws.literals_are_of_documents.Goals as goal

pub returns : goal.returns
returns c = rewritten-are-documents
