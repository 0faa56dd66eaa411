use Rattle.mdinline_text_machine.proofs.Paragraphs.Ready.{paragraphs-readable, text-readable}
use Rattle.mdinline_text_machine.proofs.laws.chains_of_paragraphs_can_be_read.Goals as goal

pub returns : goal.returns
returns c = record { paragraphs = paragraphs-readable; text = text-readable }
