use Rattle.mddocument_costs.proofs.ChainBytes.{chains-apart}
use Rattle.mddocument_costs.proofs.laws.chains_are_apart.Goals as goal

pub returns : goal.returns
returns c = chains-apart
