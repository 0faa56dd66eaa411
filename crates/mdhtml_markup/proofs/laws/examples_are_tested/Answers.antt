use Rattle.std.proofs.Common.{refl}
use Rattle.mdhtml_markup.proofs.laws.examples_are_tested.Goals as goal

pub returns : goal.returns
returns c = (refl, refl)
