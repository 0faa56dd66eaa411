use Rattle.mdgfm_footnotes.proofs.Unchanged.{none-changes-nothing, off-changes-nothing}
use Rattle.mdgfm_footnotes.proofs.laws.no_calls_change_nothing.Goals as goal

pub returns : goal.returns
returns c = record { off = off-changes-nothing; none = none-changes-nothing }
