use Rattle.mdhtml_document.proofs.Safe.{html-safe}
use Rattle.mdhtml_document.proofs.laws.html_is_safe.Goals as goal

pub returns : goal.returns
returns c = html-safe
