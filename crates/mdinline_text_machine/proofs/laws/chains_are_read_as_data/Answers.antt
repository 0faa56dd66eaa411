use Rattle.mdinline_text_machine.proofs.Prelude.{data_events, paragraphs_rules}
use Rattle.mdinline_text_machine.proofs.Paragraphs.ChainEvents.{chains-read}
use Rattle.mdinline_text_machine.proofs.Paragraphs.DataEvents.{reads-as-data}
use Rattle.mdinline_text_machine.proofs.laws.chains_are_read_as_data.Goals as goal

pub returns : goal.returns
returns c g events document ready = chains-read g events document ready paragraphs_rules (λ text. data_events g.bytes text.seats) (reads-as-data g)
