use Rattle.markdown_base.proofs.Prelude.{same_true, true_same, the_type}
use Rattle.markdown_base.proofs.laws.equal_names_are_one.Goals as goal

pub returns-clause-event_names : goal.returns-clause-event_names
returns-clause-event_names c = λ a b. (same_true the_type tt a b, true_same the_type a b)
