use Rattle.mdblock_leaf_blocks.proofs.Tags.HtmlTagLooks.{html-is-seen}
use Rattle.mdblock_leaf_blocks.proofs.Looks.LineLooks.{lines-are-seen}
use Rattle.mdblock_leaf_blocks.proofs.laws.lines_are_seen.Goals as goal

pub returns : goal.returns
returns c = lines-are-seen html-is-seen
