-- The definitions compute what is told.
use Rattle.std.proofs.Common.{refl}
use Rattle.mdhtml_document.proofs.laws.html_of_documents.Goals as goal

pub returns : goal.returns
returns c = refl
