use Rattle.mddocument_parts.proofs.MovedBlocks.{blocks-move}
use Rattle.mddocument_parts.proofs.laws.blocks_move.Goals as goal

pub returns : goal.returns
returns c = blocks-move
