use Rattle.mddocument_parts.proofs.DocumentRests.{document-rests-forget}
use Rattle.mddocument_parts.proofs.laws.document_rests_forget.Goals as goal

pub returns : goal.returns
returns c = document-rests-forget
