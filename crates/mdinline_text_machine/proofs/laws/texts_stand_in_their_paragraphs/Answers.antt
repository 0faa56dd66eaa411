use Rattle.mdinline_text_machine.proofs.ParagraphTexts.Whole.{read-as-data, read-as-texts}
use Rattle.mdinline_text_machine.proofs.laws.texts_stand_in_their_paragraphs.Goals as goal

pub returns : goal.returns
returns c = record { as_data = read-as-data; as_texts = read-as-texts }
