use Rattle.mdinline_text_machine.proofs.Prelude.{text_rules}
use Rattle.mdinline_text_machine.proofs.Paragraphs.ChainEvents.{chains-stand}
use Rattle.mdinline_text_machine.proofs.Texts.Ends.{texts-unresolved}
use Rattle.mdinline_text_machine.proofs.laws.chains_are_read_at_places.Goals as goal

pub returns : goal.returns
returns c g events document ready = chains-stand g events document ready text_rules (texts-unresolved g)
