use Rattle.mdconstructs_tables.proofs.Looks.Scans.{looks-are-scans}
use Rattle.mdconstructs_tables.proofs.laws.looks_are_scans.Goals as goal

pub returns : goal.returns
returns g c = λ table h text step plays. looks-are-scans table h text step plays
