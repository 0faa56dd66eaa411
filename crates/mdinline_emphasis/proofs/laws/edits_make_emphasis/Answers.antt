use Rattle.mdinline_emphasis.proofs.RunEdits.{edits-make-emphasis}
use Rattle.mdinline_emphasis.proofs.laws.edits_make_emphasis.Goals as goal

pub returns : goal.returns
returns c = edits-make-emphasis
