use Rattle.markdown_tokenizer.proofs.Inside.Steps.{end-fed-sound}
use Rattle.markdown_tokenizer.proofs.tokenizer.Tokenizer.feed_end.Goals as goal

pub invariant_of-self : goal.invariant_of-self
invariant_of-self g c =
    end-fed-sound c.self.inside c.self.invariant (rw (← c.self.view_is) at c.requires.read) (rw (← c.self.view_is) at c.requires.closed)
