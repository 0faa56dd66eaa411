use Rattle.mdhtml_depth.proofs.Kept.{depth-kept}
use Rattle.mdhtml_depth.proofs.laws.limits_are_kept.Goals as goal

pub returns : goal.returns
returns _ = depth-kept
