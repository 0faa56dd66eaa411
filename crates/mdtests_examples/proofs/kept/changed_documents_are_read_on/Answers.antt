use Rattle.mdtests_examples.proofs.Prelude.{refl, point}
use Rattle.mdtests_examples.proofs.kept.changed_documents_are_read_on.Goals as goal

pub read_on-requires-clause-cut : goal.read_on-requires-clause-cut
read_on-requires-clause-cut g c = (point 2 1 2 0, refl, refl, tt)

pub read_on-requires-2-clause-cut : goal.read_on-requires-2-clause-cut
read_on-requires-2-clause-cut g c = (point 2 1 2 0, refl, refl, tt)

pub read_on-requires-3-clause-cut : goal.read_on-requires-3-clause-cut
read_on-requires-3-clause-cut g c = (point 2 1 2 0, refl, refl, tt)
