use Rattle.mdinline_text_machine.proofs.Prelude.{text_events, text_rules}
use Rattle.mdinline_text_machine.proofs.Paragraphs.ChainEvents.{chains-read}
use Rattle.mdinline_text_machine.proofs.Texts.Ends.{reads-items}
use Rattle.mdinline_text_machine.proofs.laws.chains_are_read_as_texts.Goals as goal

pub returns : goal.returns
returns c g events document ready = chains-read g events document ready text_rules (text_events g) (reads-items g)
