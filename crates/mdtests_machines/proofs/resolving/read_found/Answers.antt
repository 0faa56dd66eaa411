use Rattle.mdtests_machines.proofs.Prelude.{given_of, start-is-point}
use Rattle.mdtests_machines.proofs.resolving.read_found.Goals as goal

pub new-tokenizer-requires : goal.new-tokenizer-requires
new-tokenizer-requires c = record { place = start-is-point (given_of c.args.parse_state.now) c.args.parse_state.now.tab_size.0 }
