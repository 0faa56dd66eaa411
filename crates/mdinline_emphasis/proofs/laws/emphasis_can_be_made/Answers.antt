use Rattle.mdinline_emphasis.proofs.RunEdits.{emphasis-can-be-made}
use Rattle.mdinline_emphasis.proofs.laws.emphasis_can_be_made.Goals as goal

pub returns : goal.returns
returns c = emphasis-can-be-made
