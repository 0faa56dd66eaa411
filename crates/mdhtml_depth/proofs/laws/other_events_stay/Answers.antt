use Rattle.mdhtml_depth.proofs.Kept.{others-stay}
use Rattle.mdhtml_depth.proofs.laws.other_events_stay.Goals as goal

pub returns : goal.returns
returns _ = others-stay
