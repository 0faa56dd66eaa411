use Rattle.mdinline_text_machine.proofs.Prelude.{paragraphs_rules, blocks-accounted, text_rules}
use Rattle.mdinline_text_machine.proofs.Paragraphs.Blocks.{paragraphs-by-blocks, text-by-blocks}
use Rattle.mdinline_text_machine.proofs.laws.innermost_spans_account_for_blocks.Goals as goal

pub returns : goal.returns
returns c = record { paragraphs = blocks-accounted paragraphs_rules paragraphs-by-blocks; text = blocks-accounted text_rules text-by-blocks }
