use Rattle.mdinline_text_machine.proofs.NoRefusals.{text-refuses-nothing}
use Rattle.mdinline_text_machine.proofs.laws.no_document_is_refused.Goals as goal

pub returns : goal.returns
returns c = text-refuses-nothing
