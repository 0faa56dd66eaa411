-- for wrong bodies: the search finds this, and takes long where it is false
use Rattle.std.proofs.Common.{rules}
use Rattle.markdown_tokenizer.proofs.tokenizer.Tokenizer.tick.Goals as goal

pub returns : goal.returns
returns g c = search rules
