use Rattle.mdhtml_document.proofs.Both.{html-both}
use Rattle.mdhtml_document.proofs.laws.html_of_both.Goals as goal

pub returns : goal.returns
returns c = html-both
