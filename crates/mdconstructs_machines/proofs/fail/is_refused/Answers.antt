use Rattle.mdconstructs_machines.proofs.Prelude.{◌==◌, ap}
use Rattle.mdconstructs_machines.proofs.fail.is_refused.Goals as goal

pub returns : goal.returns
returns c = ap (λ v. v.configuration.local.tokenize_state.size == c.args.at) c.t.view_is
