use Rattle.markdown_tokenizer.proofs.Readings.Stays.{stay-before-choices, what-was-read-stays}
use Rattle.markdown_tokenizer.proofs.laws.what_was_read_stays.Goals as goal

pub returns-clause-before_choices : goal.returns-clause-before_choices
returns-clause-before_choices g c m given = stay-before-choices given (g.M.Machine.rules m given) (g.met.M.Machine.lawful m given)

pub returns-clause-no_choice : goal.returns-clause-no_choice
returns-clause-no_choice g c m given = what-was-read-stays given (g.M.Machine.rules m given) (g.met.M.Machine.lawful m given)
