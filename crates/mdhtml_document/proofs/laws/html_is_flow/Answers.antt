use Rattle.mdhtml_document.proofs.Flow.{html-flow}
use Rattle.mdhtml_document.proofs.laws.html_is_flow.Goals as goal

pub returns : goal.returns
returns c = html-flow
