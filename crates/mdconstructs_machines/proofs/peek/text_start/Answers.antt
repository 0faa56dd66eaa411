use Rattle.mdconstructs_machines.proofs.Prelude.{refl}
use Rattle.mdconstructs_machines.proofs.peek.text_start.Goals as goal

pub returns : goal.returns
returns c = record { answered = refl; became = c.in_ok-check.ensures.ok }
