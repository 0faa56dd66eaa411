use Rattle.mdblock_tables.proofs.PieceLemmas.{pieces_move}
use Rattle.mdblock_tables.proofs.laws.pieces_move.Goals as goal

pub returns : goal.returns
returns c = pieces_move
