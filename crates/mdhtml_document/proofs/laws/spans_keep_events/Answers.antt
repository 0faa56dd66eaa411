use Rattle.mdhtml_document.proofs.Both.{keep-events}
use Rattle.mdhtml_document.proofs.laws.spans_keep_events.Goals as goal

pub returns : goal.returns
returns c = keep-events
