use Rattle.std.proofs.Common.{arith, refl}
use Rattle.mdblock_leaf_rows.proofs.laws.cost_at_the_start.Goals as goal

pub returns : goal.returns
returns c = record { starts = λ g. refl; cost = λ g text flag. omega arith; content_cost = λ g text flag. omega arith }
