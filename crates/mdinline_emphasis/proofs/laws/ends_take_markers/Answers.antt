use Rattle.mdinline_emphasis.proofs.Ends.{ends-take-markers}
use Rattle.mdinline_emphasis.proofs.laws.ends_take_markers.Goals as goal

pub returns : goal.returns
returns c = ends-take-markers
