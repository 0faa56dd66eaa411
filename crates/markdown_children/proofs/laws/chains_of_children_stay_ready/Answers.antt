use Rattle.markdown_children.proofs.Parts.Staying.{chains-stay-ready}
use Rattle.markdown_children.proofs.laws.chains_of_children_stay_ready.Goals as goal

pub returns : goal.returns
returns c = chains-stay-ready
