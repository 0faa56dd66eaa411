use Rattle.mdhtml_laws.proofs.Ended.{html-ends, html-of-parts}
use Rattle.mdhtml_laws.proofs.laws.html_of_parts.Goals as goal

pub returns : goal.returns
returns c = record { lines = html-ends; parts = html-of-parts }
