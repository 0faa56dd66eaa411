use Rattle.mddocument_parts.proofs.BothDocuments.{document-sections-give-events}
use Rattle.mddocument_parts.proofs.laws.document_sections_give_events.Goals as goal

pub returns : goal.returns
returns c = document-sections-give-events
