use Rattle.mdblock_table_marks.proofs.TableCuts.{cuts_need_tables}
use Rattle.mdblock_table_marks.proofs.laws.cuts_need_tables.Goals as goal

pub returns : goal.returns
returns c = cuts_need_tables
