use Rattle.mdhtml_depth.proofs.Kept.{shallow-stays}
use Rattle.mdhtml_depth.proofs.laws.shallow_events_stay.Goals as goal

pub returns : goal.returns
returns _ = shallow-stays
