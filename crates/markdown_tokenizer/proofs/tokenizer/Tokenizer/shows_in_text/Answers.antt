use Rattle.markdown_tokenizer.proofs.Inside.Steps.{in-text}
use Rattle.markdown_tokenizer.proofs.tokenizer.Tokenizer.shows_in_text.Goals as goal

pub returns : goal.returns
returns g c = rw (← c.self.view_is) (in-text c.self.inside c.self.invariant)
