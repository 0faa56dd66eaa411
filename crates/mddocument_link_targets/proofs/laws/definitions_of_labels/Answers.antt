-- The definitions compute what is told.
use Rattle.mddocument_link_targets.proofs.Examples.{of-definitions}
use Rattle.mddocument_link_targets.proofs.laws.definitions_of_labels.Goals as goal

pub returns : goal.returns
returns c = of-definitions
