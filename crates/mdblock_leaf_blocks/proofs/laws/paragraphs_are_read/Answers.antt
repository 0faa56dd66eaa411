use Rattle.mdblock_leaf_blocks.proofs.Tags.HtmlTagLooks.{html-is-seen}
use Rattle.mdblock_leaf_blocks.proofs.Looks.LineLooks.{lines-are-seen}
use Rattle.mdblock_leaf_blocks.proofs.Paragraphs.Reads.{paragraphs-read}
use Rattle.mdblock_leaf_blocks.proofs.laws.paragraphs_are_read.Goals as goal

pub returns : goal.returns
returns c = paragraphs-read (lines-are-seen html-is-seen)
