use Rattle.mdhtml_laws.proofs.FurtherHtml.{behind-nothing, html-moves, html-of-sections}
use Rattle.mdhtml_laws.proofs.laws.html_of_sections.Goals as goal

pub returns : goal.returns
returns c = record { moved = html-moves; behind = behind-nothing; sections = html-of-sections }
