use Rattle.mdblock_text_lines.proofs.BlocksAreThose.{blocks-are-those}
use Rattle.mdblock_text_lines.proofs.laws.blocks_need_no_letters.Goals as goal

pub returns : goal.returns
returns c = blocks-are-those
