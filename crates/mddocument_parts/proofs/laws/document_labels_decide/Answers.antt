use Rattle.mddocument_parts.proofs.DocumentAsked.{document-labels-decide}
use Rattle.mddocument_parts.proofs.laws.document_labels_decide.Goals as goal

pub returns : goal.returns
returns c = document-labels-decide
