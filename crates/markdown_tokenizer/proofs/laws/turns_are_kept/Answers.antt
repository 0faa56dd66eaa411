use Rattle.markdown_tokenizer.proofs.Readings.Turns.{turns-are-kept}
use Rattle.markdown_tokenizer.proofs.laws.turns_are_kept.Goals as goal

pub returns : goal.returns
returns g c = turns-are-kept
