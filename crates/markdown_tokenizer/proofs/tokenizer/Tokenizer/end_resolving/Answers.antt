use Rattle.markdown_tokenizer.proofs.Runs.Resolvers.{phase-sound}
use Rattle.markdown_tokenizer.specs.declared.waiting.Phase.TheVariants.{Resolved}
use Rattle.markdown_tokenizer.proofs.tokenizer.Tokenizer.end_resolving.Goals as goal

pub invariant_of-self : goal.invariant_of-self
invariant_of-self g c = phase-sound c.self.inside c.self.invariant Resolved c.give_back.new.list (let kept = c.give_back.ensures in rw kept c.self.invariant.once) (λ e. cc) (rw (← c.self.view_is) at c.requires.closed)
