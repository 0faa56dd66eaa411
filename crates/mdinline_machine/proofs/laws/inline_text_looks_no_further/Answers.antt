use Rattle.mdinline_machine.proofs.Looks.{inlines-look}
use Rattle.mdinline_machine.proofs.laws.inline_text_looks_no_further.Goals as goal

pub returns : goal.returns
returns c = inlines-look
