use Rattle.mdgfm_literals.proofs.TileLaw.{tiles-kept}
use Rattle.mdgfm_literals.proofs.laws.literals_keep_tiles.Goals as goal

pub returns : goal.returns
returns c = tiles-kept
