use Rattle.mddocument_parts.proofs.DocumentBytes.{document-rests-of-both}
use Rattle.mddocument_parts.proofs.laws.document_rests_of_both.Goals as goal

pub returns : goal.returns
returns c = document-rests-of-both
