use Rattle.mdgfm_literals.proofs.Parts.{behind-nothing, literals-move, of-parts}
use Rattle.mdgfm_literals.proofs.laws.literals_of_parts.Goals as goal

pub returns : goal.returns
returns c = record { moved = literals-move; behind = behind-nothing; parts = of-parts }
