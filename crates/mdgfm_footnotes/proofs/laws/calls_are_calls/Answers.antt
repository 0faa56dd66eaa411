use Rattle.mdgfm_footnotes.proofs.CallLaws.{calls-are-calls}
use Rattle.mdgfm_footnotes.proofs.laws.calls_are_calls.Goals as goal

pub returns : goal.returns
returns c = calls-are-calls
