use Rattle.markdown_tokenizer.proofs.Inside.Steps.{well-formed}
use Rattle.markdown_tokenizer.proofs.tokenizer.Tokenizer.shows_events.Goals as goal

pub returns : goal.returns
returns g c = rw (← c.self.view_is) (well-formed c.self.inside c.self.invariant)
