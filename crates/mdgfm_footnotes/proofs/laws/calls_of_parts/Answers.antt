use Rattle.mdgfm_footnotes.proofs.Parts.{behind-nothing, calls-move, of-parts}
use Rattle.mdgfm_footnotes.proofs.laws.calls_of_parts.Goals as goal

pub returns : goal.returns
returns c = record { moved = calls-move; behind = behind-nothing; parts = of-parts }
