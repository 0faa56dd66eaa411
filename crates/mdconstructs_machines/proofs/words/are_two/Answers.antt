use Rattle.mdconstructs_machines.proofs.Prelude.{◌==◌, ap}
use Rattle.mdconstructs_machines.proofs.words.are_two.Goals as goal

pub returns : goal.returns
returns c = ap (λ v. v.configuration.local.tokenize_state.size_b == 2) c.t.view_is
