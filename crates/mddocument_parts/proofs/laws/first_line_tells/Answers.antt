use Rattle.mddocument_parts.proofs.Sections.{first-line-tells}
use Rattle.mddocument_parts.proofs.laws.first_line_tells.Goals as goal

pub returns : goal.returns
returns c = first-line-tells
