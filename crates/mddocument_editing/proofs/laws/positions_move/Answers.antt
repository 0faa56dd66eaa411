use Rattle.mddocument_editing.proofs.PartsMove.{endings-add, offsets-move, positions-move}
use Rattle.mddocument_editing.proofs.laws.positions_move.Goals as goal

pub returns : goal.returns
returns c = record { positions = positions-move; offsets = offsets-move; endings = endings-add }
