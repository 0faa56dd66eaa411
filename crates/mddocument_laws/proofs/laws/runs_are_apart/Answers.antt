use Rattle.mddocument_laws.proofs.Emphasis.RunsApart.{runs-are-apart}
use Rattle.mddocument_laws.proofs.laws.runs_are_apart.Goals as goal

pub returns : goal.returns
returns c = runs-are-apart
