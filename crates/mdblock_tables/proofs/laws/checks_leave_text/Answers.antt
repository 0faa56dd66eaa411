use Rattle.mdblock_tables.proofs.TaskLemmas.{checks_leave_text}
use Rattle.mdblock_tables.proofs.laws.checks_leave_text.Goals as goal

pub returns : goal.returns
returns c = checks_leave_text
