use Rattle.mdhtml_document.proofs.Linear.{html-linear}
use Rattle.mdhtml_document.proofs.laws.html_is_linear.Goals as goal

pub returns : goal.returns
returns c = html-linear
