use Rattle.mdtests_machines.proofs.Prelude.{refl, point}
use Rattle.mdtests_machines.proofs.resolving.read_one.Goals as goal

pub read-requires-clause-cut : goal.read-requires-clause-cut
read-requires-clause-cut c = (point 1 2 1 0, refl, refl, tt)
