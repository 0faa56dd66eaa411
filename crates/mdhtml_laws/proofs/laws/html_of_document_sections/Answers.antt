use Rattle.mdhtml_laws.proofs.DocumentSections.{html-of-document-sections}
use Rattle.mdhtml_laws.proofs.laws.html_of_document_sections.Goals as goal

pub returns : goal.returns
returns c = html-of-document-sections
