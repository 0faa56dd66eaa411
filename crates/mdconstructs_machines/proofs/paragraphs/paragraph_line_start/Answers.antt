-- for wrong bodies: the search finds this, and takes long where it is false
use Rattle.std.proofs.Common.{rules}
use Rattle.mdconstructs_machines.proofs.paragraphs.paragraph_line_start.Goals as goal

pub returns-in_ok-marker-in-Some-eq62 : goal.returns-in_ok-marker-in-Some-eq62
returns-in_ok-marker-in-Some-eq62 g c = search rules
