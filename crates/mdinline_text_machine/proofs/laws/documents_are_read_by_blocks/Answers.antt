use Rattle.mdinline_text_machine.proofs.Paragraphs.Blocks.{paragraphs-by-blocks, text-by-blocks}
use Rattle.mdinline_text_machine.proofs.laws.documents_are_read_by_blocks.Goals as goal

pub returns : goal.returns
returns c = record { paragraphs = paragraphs-by-blocks; text = text-by-blocks }
