use Rattle.mdblock_leaf_blocks.proofs.Html.Whole.{html-is-read}
use Rattle.mdblock_leaf_blocks.proofs.laws.html_is_read.Goals as goal

pub returns : goal.returns
returns c = html-is-read
