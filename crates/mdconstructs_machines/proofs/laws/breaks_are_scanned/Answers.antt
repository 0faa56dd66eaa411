use Rattle.mdconstructs_machines.proofs.Breaks.{breaks-are-scanned, breaks-quiet}
use Rattle.mdconstructs_machines.proofs.laws.breaks_are_scanned.Goals as goal

pub returns : goal.returns
returns c = record { scanned = breaks-are-scanned; quiet = breaks-quiet }
