use Rattle.mdconstructs_tables.proofs.Cases.{at-byte}
use Rattle.mdconstructs_tables.proofs.laws.cases_are_by_bytes.Goals as goal

pub returns : goal.returns
returns g c = λ class cs tests rest are byte. at-byte class cs tests rest are byte
