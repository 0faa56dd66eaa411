use Rattle.mddocument_rules.proofs.WrittenRuns.{runs-are-written}
use Rattle.mddocument_rules.proofs.laws.emphasis_keeps_what_is_written.Goals as goal

pub returns : goal.returns
returns c = runs-are-written
