use Rattle.mdtests_tables.proofs.Prelude.{arith, refl}
use Rattle.mdtests_tables.proofs.looping.looping_takes_two_calls_a_byte.Goals as goal

pub returns : goal.returns
returns c = record { starts = λ g. refl; cost = λ g text flag. omega arith }
