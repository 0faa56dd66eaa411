use Rattle.mddocument_costs.proofs.DocumentPasses.{passes-are}
use Rattle.mddocument_costs.proofs.laws.passes_are_of_their_document.Goals as goal

pub returns : goal.returns
returns c = passes-are
