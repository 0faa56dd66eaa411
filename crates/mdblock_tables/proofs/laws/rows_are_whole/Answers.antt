use Rattle.mdblock_tables.proofs.RowLemmas.{rows_are_whole}
use Rattle.mdblock_tables.proofs.laws.rows_are_whole.Goals as goal

pub returns : goal.returns
returns c = rows_are_whole
