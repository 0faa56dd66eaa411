use Rattle.markdown_tokenizer.proofs.Prelude.{no_byte}
use Rattle.markdown_tokenizer.proofs.tokenizer.running.over_until.Goals as goal

pub returns-in_default-clause-over : goal.returns-in_default-clause-over
returns-in_default-clause-over g c = no_byte
