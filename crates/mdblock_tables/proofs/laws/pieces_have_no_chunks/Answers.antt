use Rattle.mdblock_tables.proofs.PieceLemmas.{pieces_have_no_chunks}
use Rattle.mdblock_tables.proofs.laws.pieces_have_no_chunks.Goals as goal

pub returns : goal.returns
returns c = pieces_have_no_chunks
