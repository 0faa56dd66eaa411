use Rattle.mddocument.proofs.Prelude.{inr}
use Rattle.mddocument.proofs.making.read_deep_by.Goals as goal

pub returns-clause-message : goal.returns-clause-message
returns-clause-message g c = λ m e. inr (_, c.in_ok-events.ensures.events, c.with_children.ensures.message m e)
