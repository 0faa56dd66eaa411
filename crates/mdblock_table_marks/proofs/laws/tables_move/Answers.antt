use Rattle.mdblock_table_marks.proofs.TableMoves.{tables_move}
use Rattle.mdblock_table_marks.proofs.laws.tables_move.Goals as goal

pub returns : goal.returns
returns c = tables_move
