use Rattle.mddocument_parts.proofs.BothDocuments.{document-blocks-of-both}
use Rattle.mddocument_parts.proofs.laws.document_blocks_of_both.Goals as goal

pub returns : goal.returns
returns c = document-blocks-of-both
