use Rattle.mdblock_table_marks.proofs.CellLemmas.{cells_keep_events}
use Rattle.mdblock_table_marks.proofs.laws.cells_keep_events.Goals as goal

pub returns : goal.returns
returns c = cells_keep_events
