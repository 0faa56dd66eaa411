use Rattle.mdblock_table_marks.proofs.TableCuts.{cuts_hold_lines}
use Rattle.mdblock_table_marks.proofs.laws.cuts_hold_lines.Goals as goal

pub returns : goal.returns
returns c = cuts_hold_lines
