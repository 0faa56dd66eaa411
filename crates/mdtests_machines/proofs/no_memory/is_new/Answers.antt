use Rattle.mdtests_machines.proofs.Prelude.{given_of, start-is-point}
use Rattle.mdtests_machines.proofs.no_memory.is_new.Goals as goal

pub new-t-requires : goal.new-t-requires
new-t-requires c = record { place = start-is-point (given_of c.args.parse_state.now) c.args.parse_state.now.tab_size.0 }
