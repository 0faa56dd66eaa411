use Rattle.mdhtml_calls.proofs.Apart.{documents-are-apart}
use Rattle.mdhtml_calls.proofs.laws.documents_are_apart.Goals as goal

pub returns : goal.returns
returns c = documents-are-apart
