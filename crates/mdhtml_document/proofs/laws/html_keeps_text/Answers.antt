use Rattle.mdhtml_document.proofs.Safe.{html-text}
use Rattle.mdhtml_document.proofs.laws.html_keeps_text.Goals as goal

pub returns : goal.returns
returns c = html-text
