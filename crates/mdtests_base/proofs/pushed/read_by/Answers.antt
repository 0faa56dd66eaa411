use Rattle.mdtests_base.proofs.Prelude.{given_of, start-is-point}
use Rattle.mdtests_base.proofs.pushed.read_by.Goals as goal

pub new-tokenizer-requires : goal.new-tokenizer-requires
new-tokenizer-requires g c = record { place = start-is-point (given_of c.in-Some.parse_state) c.in-Some.parse_state.tab_size.0 }
