use Rattle.mdinline_machine.proofs.Looks.{inlines-refuse-nothing}
use Rattle.mdinline_machine.proofs.laws.no_document_is_refused.Goals as goal

pub returns : goal.returns
returns c = inlines-refuse-nothing
