use Rattle.mddocument_costs.proofs.ChainCount.{chains-few}
use Rattle.mddocument_costs.proofs.laws.chains_are_few.Goals as goal

pub returns : goal.returns
returns c = chains-few
