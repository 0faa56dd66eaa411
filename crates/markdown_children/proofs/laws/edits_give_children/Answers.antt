use Rattle.markdown_children.proofs.Parts.Edits.{edits_give_children}
use Rattle.markdown_children.proofs.laws.edits_give_children.Goals as goal

pub returns : goal.returns
returns c = λ tab bytes wanted events ready children. edits_give_children tab bytes wanted events children ready
