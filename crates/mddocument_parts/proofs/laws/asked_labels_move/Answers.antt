use Rattle.mddocument_parts.proofs.MovedReads.{asked-move}
use Rattle.mddocument_parts.proofs.laws.asked_labels_move.Goals as goal

pub returns : goal.returns
returns c = asked-move
