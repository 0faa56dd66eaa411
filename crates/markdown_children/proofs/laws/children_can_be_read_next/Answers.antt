use Rattle.markdown_children.proofs.Parts.GoingOn.{goes-on}
use Rattle.markdown_children.proofs.laws.children_can_be_read_next.Goals as goal

pub returns : goal.returns
returns c = goes-on
