use Rattle.mdblock_leaf_blocks.proofs.Tags.HtmlTagLooks.{html-is-seen}
use Rattle.mdblock_leaf_blocks.proofs.laws.html_is_seen.Goals as goal

pub returns : goal.returns
returns c = html-is-seen
