use Rattle.mdgfm_literals.proofs.LiteralLaws.{literals-are}
use Rattle.mdgfm_literals.proofs.laws.literals_are_literals.Goals as goal

pub returns : goal.returns
returns c = literals-are
