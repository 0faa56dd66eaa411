use Rattle.mddocument_editing.proofs.CutLines.{endings-are-counted, parts-start-lines}
use Rattle.mddocument_editing.proofs.laws.cuts_start_lines.Goals as goal

pub returns : goal.returns
returns c = record { counted = endings-are-counted; starts = parts-start-lines }
