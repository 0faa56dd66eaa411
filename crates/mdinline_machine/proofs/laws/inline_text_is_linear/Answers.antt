use Rattle.mdinline_machine.proofs.InlineReads.{inline-text-is-linear}
use Rattle.mdinline_machine.proofs.laws.inline_text_is_linear.Goals as goal

pub returns : goal.returns
returns c = inline-text-is-linear
