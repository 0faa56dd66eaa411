use Rattle.markdown_edits.proofs.Prelude.{ap, edits_of}
use Rattle.markdown_edits.proofs.tree.Tree.new.Goals as goal

pub returns : goal.returns
returns c = ap edits_of c.new.ensures.empty
