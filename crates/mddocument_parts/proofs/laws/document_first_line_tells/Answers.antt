use Rattle.mddocument_parts.proofs.DocumentBytes.{document-first-line-tells}
use Rattle.mddocument_parts.proofs.laws.document_first_line_tells.Goals as goal

pub returns : goal.returns
returns c = document-first-line-tells
