use Rattle.mdgfm_footnotes.proofs.Examples.{calls-told, lines-told}
use Rattle.mdgfm_footnotes.proofs.laws.calls_of_some_texts.Goals as goal

pub returns : goal.returns
returns c = record { texts = calls-told; lines = lines-told }
