use Rattle.markdown_tokenizer.proofs.Runs.Onward.{goes-on-elsewhere}
use Rattle.markdown_tokenizer.proofs.laws.goes_on_elsewhere.Goals as goal

pub returns : goal.returns
returns g c = goes-on-elsewhere g.M.Machine.rules g.met.M.Machine.lawful
