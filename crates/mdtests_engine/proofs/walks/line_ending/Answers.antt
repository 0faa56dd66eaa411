use Rattle.mdtests_engine.proofs.Prelude.{sym, ◌∙◌, IsBalanced-pair}
use Rattle.mdtests_engine.proofs.walks.line_ending.Goals as goal

pub returns : goal.returns
returns c = IsBalanced-pair c.event.result c.event-2.result c.event.ensures.is c.event-2.ensures.is (c.event-2.ensures.named ∙ sym c.event.ensures.named)
