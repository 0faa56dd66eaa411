use Rattle.mdhtml_document.proofs.Short.{html-short}
use Rattle.mdhtml_document.proofs.laws.html_is_short.Goals as goal

pub returns : goal.returns
returns c = html-short
