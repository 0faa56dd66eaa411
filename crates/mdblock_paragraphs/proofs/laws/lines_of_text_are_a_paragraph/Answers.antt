use Rattle.mdblock_paragraphs.proofs.LinesOfText.{one-paragraph}
use Rattle.mdblock_paragraphs.proofs.laws.lines_of_text_are_a_paragraph.Goals as goal

pub returns : goal.returns
returns c = one-paragraph
