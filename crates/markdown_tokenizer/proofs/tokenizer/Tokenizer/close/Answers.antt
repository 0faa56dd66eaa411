use Rattle.markdown_tokenizer.proofs.Inside.Fields.{closed-sound}
use Rattle.markdown_tokenizer.proofs.tokenizer.Tokenizer.close.Goals as goal

pub invariant_of-self : goal.invariant_of-self
invariant_of-self g c = closed-sound c.self.inside c.self.invariant
