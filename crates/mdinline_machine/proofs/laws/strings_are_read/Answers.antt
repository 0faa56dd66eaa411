use Rattle.mdinline_machine.proofs.StringChains.{reads-strings}
use Rattle.mdinline_machine.proofs.laws.strings_are_read.Goals as goal

pub returns : goal.returns
returns c = reads-strings
