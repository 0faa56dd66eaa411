use Rattle.markdown_tokenizer.proofs.Runs.Resolvers.{phase-sound, none-twice}
use Rattle.markdown_tokenizer.proofs.Prelude.{Resolving}
use Rattle.markdown_tokenizer.proofs.tokenizer.Tokenizer.begin_resolving.Goals as goal

pub invariant_of-self : goal.invariant_of-self
invariant_of-self g c = phase-sound c.self.inside c.self.invariant Resolving _ (let after = c.replace.ensures.after in let none = c.new-none.ensures.items in rw (after, none) (none-twice g.M.Resolver.PartialEq.eq)) (λ e. cc) (rw (← c.self.view_is) at c.requires.closed)
