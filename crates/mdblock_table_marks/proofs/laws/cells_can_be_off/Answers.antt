use Rattle.mdblock_table_marks.proofs.CellLemmas.{cells_can_be_off}
use Rattle.mdblock_table_marks.proofs.laws.cells_can_be_off.Goals as goal

pub returns : goal.returns
returns c = cells_can_be_off
