use Rattle.mdtests_engine.proofs.Prelude.{refl, arith}
use Rattle.mdtests_engine.proofs.places.behind_the_tab.Goals as goal

pub shift_to-requires-clause-fits : goal.shift_to-requires-clause-fits
shift_to-requires-clause-fits c = rw c.every-tab_size.ensures (omega arith)

pub shift_to-requires-clause-place : goal.shift_to-requires-clause-place
shift_to-requires-clause-place c = rw c.every-tab_size.ensures (0, omega arith, refl)
