use Rattle.markdown_tokenizer.proofs.Runs.Alike.{calls-are-alike}
use Rattle.markdown_tokenizer.proofs.laws.calls_are_alike.Goals as goal

pub returns : goal.returns
returns g c m = calls-are-alike (g.M.Machine.rules m)
