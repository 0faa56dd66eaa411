use Rattle.mdinline_machine.proofs.InlineChains.{inline-stays-ready}
use Rattle.mdinline_machine.proofs.laws.other_chains_stay_ready_after_inline_text.Goals as goal

pub returns : goal.returns
returns c = inline-stays-ready
