use Rattle.mddocument_parts.proofs.DocumentRests.{rows-of-both}
use Rattle.mddocument_parts.proofs.laws.rows_of_both.Goals as goal

pub returns : goal.returns
returns c = rows-of-both
