use Rattle.markdown_tokenizer.specs.Sight.{sight}
use Rattle.mdconstructs_tables.proofs.Tables.Over.{picked-pairs-over, picked-read-over, rows-read-over}
use Rattle.mdconstructs_tables.proofs.laws.rows_read_over.Goals as goal

pub returns : goal.returns
returns g c = record {
  steps = rows-read-over;
  picked = picked-read-over;
  pairs = picked-pairs-over;
  rules = λ table state name byte first there over given text k choices n is holds same current.
      rw same (rows-read-over table state name byte first there over given (sight given text k) k current);
}
