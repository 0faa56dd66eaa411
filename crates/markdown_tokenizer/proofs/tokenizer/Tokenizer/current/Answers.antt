use Rattle.markdown_tokenizer.proofs.Prelude.{Byte}
use Rattle.markdown_tokenizer.proofs.Inside.Steps.{current-is}
use Rattle.markdown_tokenizer.proofs.tokenizer.Tokenizer.current.Goals as goal

pub returns-in-Byte : goal.returns-in-Byte
returns-in-Byte g c = rw (← c.self.view_is) (current-is c.self.inside c.self.invariant Byte c.in-Byte.is)
