use Rattle.markdown_base.proofs.Prelude.{rules}
use Rattle.markdown_base.proofs.EqualityLemmas.{event-same}
use Rattle.markdown_base.proofs.laws.equal_events_are_one.Goals as goal

pub returns : goal.returns
returns c = λ a b. event-same _ (λ x y. search rules) a b
