use Rattle.mdinline_links.proofs.Costs.{links-cost-little}
use Rattle.mdinline_links.proofs.laws.links_cost_little.Goals as goal

pub returns : goal.returns
returns c = links-cost-little
