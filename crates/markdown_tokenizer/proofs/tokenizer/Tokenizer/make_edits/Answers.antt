use Rattle.markdown_tokenizer.proofs.Runs.Resolvers.{events-sound}
use Rattle.markdown_tokenizer.proofs.tokenizer.Tokenizer.make_edits.Goals as goal

pub invariant_of-self : goal.invariant_of-self
invariant_of-self g c =
    events-sound c.self.inside c.self.invariant (rw (← c.self.view_is) at c.requires.resolving) (rw (← c.self.view_is) at c.requires.alone) _ _
