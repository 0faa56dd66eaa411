use Rattle.mddocument.proofs.Prelude.{arith}
use Rattle.mddocument.proofs.choice.links_text.Goals as goal

-- these machines link nothing
pub returns-in-Lines : goal.returns-in-Lines
returns-in-Lines c = grind (arith, c.in-Lines.is)
