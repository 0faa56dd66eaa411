use Rattle.markdown_children.proofs.Parts.GoingOn.{goes-on-by}
use Rattle.markdown_children.proofs.laws.subtokenized_lists_are_ready.Goals as goal

pub returns : goal.returns
returns g c m given wanted next events = goes-on-by given (g.M.Machine.rules m) wanted next events
