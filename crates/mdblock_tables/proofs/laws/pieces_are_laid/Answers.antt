use Rattle.mdblock_tables.proofs.PieceLemmas.{pieces_are_laid}
use Rattle.mdblock_tables.proofs.laws.pieces_are_laid.Goals as goal

pub returns : goal.returns
returns c = pieces_are_laid
