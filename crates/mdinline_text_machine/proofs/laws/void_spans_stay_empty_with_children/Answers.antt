use Rattle.mdinline_text_machine.proofs.Paragraphs.Tight.{data-stays-tight, texts-stay-tight}
use Rattle.mdinline_text_machine.proofs.laws.void_spans_stay_empty_with_children.Goals as goal

pub returns : goal.returns
returns c = record { texts = texts-stay-tight; «data» = data-stays-tight }
