use Rattle.markdown_children.proofs.Parts.InShape.{children_fit}
use Rattle.markdown_children.proofs.laws.children_fit.Goals as goal

pub returns : goal.returns
returns c = λ tab bytes wanted events ready children. children_fit tab bytes wanted events ready children
