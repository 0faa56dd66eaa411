use Rattle.std.proofs.Common.{refl}
use Rattle.mdinline_machine.proofs.over.in_marks.Goals as goal

pub returns : goal.returns
returns c = refl
