use Rattle.mdconstructs_machines.proofs.Prelude.{refl}
use Rattle.mdconstructs_machines.proofs.laws.low_numbers_are_named.Goals as goal

pub returns : goal.returns
returns c = refl
