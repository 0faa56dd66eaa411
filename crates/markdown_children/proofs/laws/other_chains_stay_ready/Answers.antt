use Rattle.markdown_children.proofs.Parts.Staying.{stays-ready}
use Rattle.markdown_children.proofs.laws.other_chains_stay_ready.Goals as goal

pub returns : goal.returns
returns c = stays-ready
