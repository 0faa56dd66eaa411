use Rattle.mdblock_leaf_blocks.proofs.Tags.HtmlTagLooks.{html-is-seen}
use Rattle.mdblock_leaf_blocks.proofs.Looks.LineLooks.{lines-are-seen}
use Rattle.mdblock_leaf_blocks.proofs.Paragraphs.SetextReads.{setext-headings-read}
use Rattle.mdblock_leaf_blocks.proofs.laws.setext_headings_are_read.Goals as goal

pub returns : goal.returns
returns c = setext-headings-read (lines-are-seen html-is-seen)
