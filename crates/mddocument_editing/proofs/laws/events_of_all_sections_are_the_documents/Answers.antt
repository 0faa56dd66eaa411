use Rattle.mddocument_editing.proofs.SectionEvents.{all-are-the-documents}
use Rattle.mddocument_editing.proofs.laws.events_of_all_sections_are_the_documents.Goals as goal

pub returns : goal.returns
returns c = all-are-the-documents
