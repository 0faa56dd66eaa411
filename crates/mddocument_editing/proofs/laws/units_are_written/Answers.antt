use Rattle.mddocument_editing.proofs.TextChars.{units-are-written}
use Rattle.mddocument_editing.proofs.laws.units_are_written.Goals as goal

pub returns : goal.returns
returns c = units-are-written
