use Rattle.mdconstructs_tables.proofs.Looks.Stretches.{stretches-are-read}
use Rattle.mdconstructs_tables.proofs.laws.stretches_are_read.Goals as goal

pub returns : goal.returns
returns g c = λ table h text step plays. stretches-are-read table h text step plays
