use Rattle.mdinline_machine.proofs.InlineReads.{reads-inline-text}
use Rattle.mdinline_machine.proofs.laws.inline_text_is_read.Goals as goal

pub returns : goal.returns
returns c = reads-inline-text
