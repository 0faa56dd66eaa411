use Rattle.mdblock_table_marks.proofs.PieceCounts.{rows_have_few_pieces}
use Rattle.mdblock_table_marks.proofs.laws.rows_have_few_pieces.Goals as goal

pub returns : goal.returns
returns c = rows_have_few_pieces
