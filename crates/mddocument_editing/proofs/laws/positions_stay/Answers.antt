use Rattle.mddocument_editing.proofs.PartsMove.{offsets-stay, positions-stay}
use Rattle.mddocument_editing.proofs.laws.positions_stay.Goals as goal

pub returns : goal.returns
returns c = record { positions = positions-stay; offsets = offsets-stay }
