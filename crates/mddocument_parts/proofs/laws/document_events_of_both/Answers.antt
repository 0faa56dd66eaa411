use Rattle.mddocument_parts.proofs.BothDocuments.{document-events-of-both}
use Rattle.mddocument_parts.proofs.laws.document_events_of_both.Goals as goal

pub returns : goal.returns
returns c = document-events-of-both
