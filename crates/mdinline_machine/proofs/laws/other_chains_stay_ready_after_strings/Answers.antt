use Rattle.mdinline_machine.proofs.StringChains.{strings-stay-ready}
use Rattle.mdinline_machine.proofs.laws.other_chains_stay_ready_after_strings.Goals as goal

pub returns : goal.returns
returns c = strings-stay-ready
