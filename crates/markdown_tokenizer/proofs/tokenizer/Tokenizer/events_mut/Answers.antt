use Rattle.markdown_tokenizer.proofs.Runs.Resolvers.{events-sound}
use Rattle.markdown_tokenizer.proofs.tokenizer.Tokenizer.events_mut.Goals as goal

pub invariant_of-self-lent : goal.invariant_of-self-lent
invariant_of-self-lent g c =
    λ w. events-sound c.self.inside c.self.invariant (rw (← c.self.view_is) at c.requires.resolving) (rw (← c.self.view_is) at c.requires.alone) c.self.inside.map w
