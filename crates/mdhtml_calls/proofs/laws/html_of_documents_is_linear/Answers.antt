use Rattle.mdhtml_calls.proofs.Written.{uncalled-linear, written-linear}
use Rattle.mdhtml_calls.proofs.laws.html_of_documents_is_linear.Goals as goal

pub returns : goal.returns
returns c = record { calls = written-linear; uncalled = uncalled-linear }
