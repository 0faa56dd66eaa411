use Rattle.mdblock_tables.proofs.ContentLemmas.{rows_have_cells}
use Rattle.mdblock_tables.proofs.laws.rows_have_cells.Goals as goal

pub returns : goal.returns
returns c = rows_have_cells
