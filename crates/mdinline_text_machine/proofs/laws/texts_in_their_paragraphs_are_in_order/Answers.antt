use Rattle.mdinline_text_machine.proofs.ParagraphTexts.Whole.{data-formed, texts-formed}
use Rattle.mdinline_text_machine.proofs.laws.texts_in_their_paragraphs_are_in_order.Goals as goal

pub returns : goal.returns
returns c = record { as_data = data-formed; as_texts = texts-formed }
