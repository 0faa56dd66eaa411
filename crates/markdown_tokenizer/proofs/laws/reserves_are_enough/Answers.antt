use Rattle.markdown_tokenizer.specs.Reserves.{rules_with}
use Rattle.markdown_tokenizer.proofs.Readings.Reserves.{together-pays}
use Rattle.markdown_tokenizer.proofs.laws.reserves_are_enough.Goals as goal

pub returns : goal.returns
returns g c m given cost reserve pays = together-pays cost reserve given (rules_with g.M.Machine.rules m given cost reserve) pays
