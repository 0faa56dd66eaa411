use Rattle.mdtests_engine.proofs.Prelude.{rules}
use Rattle.mdtests_engine.proofs.ready.is_ready.Goals as goal

pub ready-requires : goal.ready-requires
ready-requires c = record { limit = rw c.default-tab_size.ensures (search rules) }
