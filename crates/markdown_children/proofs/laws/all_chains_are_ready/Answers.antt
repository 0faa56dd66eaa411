use Rattle.markdown_children.proofs.Parts.Staying.{each-ready}
use Rattle.markdown_children.proofs.laws.all_chains_are_ready.Goals as goal

pub returns : goal.returns
returns c = each-ready
