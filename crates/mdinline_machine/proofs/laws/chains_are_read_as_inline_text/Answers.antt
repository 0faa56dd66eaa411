use Rattle.mdinline_machine.proofs.InlineChains.{chains-read-inline}
use Rattle.mdinline_machine.proofs.laws.chains_are_read_as_inline_text.Goals as goal

pub returns : goal.returns
returns c = chains-read-inline
