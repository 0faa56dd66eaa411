use Rattle.mddocument_parts.proofs.Rests.{rests-forget}
use Rattle.mddocument_parts.proofs.laws.rests_forget.Goals as goal

pub returns : goal.returns
returns c = rests-forget
