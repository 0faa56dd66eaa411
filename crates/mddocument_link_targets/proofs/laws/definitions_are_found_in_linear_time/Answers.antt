use Rattle.mddocument_link_targets.proofs.CostLemmas.{linear}
use Rattle.mddocument_link_targets.proofs.laws.definitions_are_found_in_linear_time.Goals as goal

pub returns : goal.returns
returns c = linear
