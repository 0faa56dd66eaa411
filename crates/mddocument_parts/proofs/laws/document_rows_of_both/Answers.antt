use Rattle.mddocument_parts.proofs.DocumentBytes.{document-rows-of-both}
use Rattle.mddocument_parts.proofs.laws.document_rows_of_both.Goals as goal

pub returns : goal.returns
returns c = document-rows-of-both
