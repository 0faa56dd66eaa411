use Rattle.mdconstructs_tables.proofs.Looks.Deep.{deep-looks-are-scans}
use Rattle.mdconstructs_tables.proofs.laws.deep_looks_are_scans.Goals as goal

pub returns : goal.returns
returns g c = λ table g text step plays. deep-looks-are-scans table g text step plays
