-- Any text is read as its leaf blocks are told: each kind of line is seen, and each kind of block is read.
use Rattle.mdblock_leaf_blocks.proofs.Prelude.{FlowIsRead, LinesAreSeen}
use Rattle.mdblock_leaf_blocks.proofs.Blocks.BlankReads.{blank-lines-read}
use Rattle.mdblock_leaf_blocks.proofs.Blocks.BreakReads.{breaks-read}
use Rattle.mdblock_leaf_blocks.proofs.Blocks.CodeReads.{indented-code-read}
use Rattle.mdblock_leaf_blocks.proofs.Fenced.Whole.{fenced-code-read}
use Rattle.mdblock_leaf_blocks.proofs.Whole.FlowReads.{flow-is-read}
use Rattle.mdblock_leaf_blocks.proofs.Blocks.HeadingReads.{headings-read}
use Rattle.mdblock_leaf_blocks.proofs.Tags.HtmlTagLooks.{html-is-seen}
use Rattle.mdblock_leaf_blocks.proofs.Html.Whole.{html-is-read}
use Rattle.mdblock_leaf_blocks.proofs.Looks.LineLooks.{lines-are-seen}
use Rattle.mdblock_leaf_blocks.proofs.Paragraphs.Reads.{paragraphs-read}
use Rattle.mdblock_leaf_blocks.proofs.Paragraphs.SetextReads.{setext-headings-read}

pub lines-seen : LinesAreSeen
lines-seen = lines-are-seen html-is-seen

pub whole-flow-is-read : FlowIsRead
whole-flow-is-read = flow-is-read (record {
  lines = lines-seen;
  blanks = blank-lines-read;
  breaks = breaks-read;
  headings = headings-read;
  paragraphs = paragraphs-read lines-seen;
  setext = setext-headings-read lines-seen;
  indented_code = indented-code-read;
  fenced = fenced-code-read;
  html = html-is-read;
})
