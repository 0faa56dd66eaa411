use Rattle.mddocument_parts.proofs.MovedReads.{inlines-move}
use Rattle.mddocument_parts.proofs.laws.inlines_move.Goals as goal

pub returns : goal.returns
returns c = inlines-move
