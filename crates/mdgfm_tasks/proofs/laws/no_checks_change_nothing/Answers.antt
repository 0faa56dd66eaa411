use Rattle.mdgfm_tasks.proofs.Unchanged.{none-changes-nothing, off-changes-nothing}
use Rattle.mdgfm_tasks.proofs.laws.no_checks_change_nothing.Goals as goal

pub returns : goal.returns
returns c = record { off = off-changes-nothing; none = none-changes-nothing }
