use Rattle.mddocument_costs.proofs.FlowCalls.{flow-linear}
use Rattle.mddocument_costs.proofs.laws.chains_of_leaf_blocks_are_linear.Goals as goal

pub returns : goal.returns
returns c = flow-linear c.cost_at_the_start.ensures.content_cost
