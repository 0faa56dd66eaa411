use Rattle.mdconstructs_tables.proofs.Looks.Quiet.{quiet-looks-end}
use Rattle.mdconstructs_tables.proofs.laws.quiet_looks_end.Goals as goal

pub returns : goal.returns
returns g c = λ table. quiet-looks-end table
