use Rattle.mddocument_parts.proofs.MovedRows.{rows-move}
use Rattle.mddocument_parts.proofs.laws.rows_move.Goals as goal

pub returns : goal.returns
returns c = rows-move
