use Rattle.mdblock_table_marks.proofs.CellData.{tables_have_cell_data}
use Rattle.mdblock_table_marks.proofs.laws.tables_have_cell_data.Goals as goal

pub returns : goal.returns
returns c = tables_have_cell_data
