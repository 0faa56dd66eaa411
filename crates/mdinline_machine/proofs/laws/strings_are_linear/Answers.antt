use Rattle.mdinline_machine.proofs.StringCalls.{strings-are-linear}
use Rattle.mdinline_machine.proofs.laws.strings_are_linear.Goals as goal

pub returns : goal.returns
returns c = strings-are-linear
