use Rattle.mdtests_machines.proofs.Prelude.{refl, point}
use Rattle.mdtests_machines.proofs.refusals.message_waits_for_the_flush.Goals as goal

pub read_refused-requires-clause-cut : goal.read_refused-requires-clause-cut
read_refused-requires-clause-cut g c = (point 1 2 1 0, refl, refl, tt)

pub read_refused-requires-2-clause-cut : goal.read_refused-requires-2-clause-cut
read_refused-requires-2-clause-cut g c = (point 1 2 1 0, refl, refl, tt)

pub read_refused-requires-3-clause-cut : goal.read_refused-requires-3-clause-cut
read_refused-requires-3-clause-cut g c = (point 1 2 1 0, refl, refl, tt)
