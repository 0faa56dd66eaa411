use Rattle.mdinline_text_machine.proofs.Texts.Tight.{data-tight, text-tight}
use Rattle.mdinline_text_machine.proofs.laws.void_spans_of_texts_are_empty.Goals as goal

pub returns : goal.returns
returns c = record { texts = text-tight; «data» = data-tight }
