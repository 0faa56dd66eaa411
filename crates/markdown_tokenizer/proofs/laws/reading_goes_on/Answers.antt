use Rattle.markdown_tokenizer.proofs.Runs.Alike.{reading-goes-on}
use Rattle.markdown_tokenizer.proofs.laws.reading_goes_on.Goals as goal

pub returns : goal.returns
returns g c = reading-goes-on g.M.Machine.rules
