use Rattle.mddocument_parts.proofs.MovedSections.{sections-move}
use Rattle.mddocument_parts.proofs.laws.sections_move.Goals as goal

pub returns : goal.returns
returns c = sections-move
