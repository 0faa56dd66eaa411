use Rattle.mdconstructs_tables.proofs.Numbers.Enough.{numbered-late}
use Rattle.mdconstructs_tables.proofs.laws.numbers_are_enough.Goals as goal

pub returns : goal.returns
returns g c = λ table in_run prices early falling h. numbered-late table in_run prices early falling h
