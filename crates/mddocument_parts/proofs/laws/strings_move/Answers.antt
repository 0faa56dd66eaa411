use Rattle.mddocument_parts.proofs.MovedReads.{strings-moved}
use Rattle.mddocument_parts.proofs.laws.strings_move.Goals as goal

pub returns : goal.returns
returns c = strings-moved
