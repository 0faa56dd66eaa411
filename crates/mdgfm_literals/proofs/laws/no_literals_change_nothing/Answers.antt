use Rattle.mdgfm_literals.proofs.Unchanged.{none-changes-nothing, off-changes-nothing}
use Rattle.mdgfm_literals.proofs.laws.no_literals_change_nothing.Goals as goal

pub returns : goal.returns
returns c = record { off = off-changes-nothing; none = none-changes-nothing }
