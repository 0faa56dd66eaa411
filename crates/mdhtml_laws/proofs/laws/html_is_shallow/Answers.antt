use Rattle.mdhtml_laws.proofs.laws.html_is_shallow.Goals as goal
use Rattle.mdhtml_laws.proofs.Nested.{html-shallow, notes-shallow, uncalled-shallow}

pub returns : goal.returns
returns c = record { blocks = html-shallow; uncalled = uncalled-shallow; notes = notes-shallow }
