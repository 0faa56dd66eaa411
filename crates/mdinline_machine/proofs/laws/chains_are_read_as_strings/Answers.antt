use Rattle.mdinline_machine.proofs.StringChains.{chains-read-strings}
use Rattle.mdinline_machine.proofs.laws.chains_are_read_as_strings.Goals as goal

pub returns : goal.returns
returns c = chains-read-strings
