use Rattle.mdconstructs_tables.proofs.Looks.Folds.{bytes-are-folded}
use Rattle.mdconstructs_tables.proofs.laws.states_fold_bytes.Goals as goal

pub returns : goal.returns
returns g c = λ table. bytes-are-folded table
