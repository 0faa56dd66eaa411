-- The definitions compute what is told.
use Rattle.mddocument_link_targets.proofs.Examples.{of-inline, of-references, of-strings}
use Rattle.mddocument_link_targets.proofs.laws.targets_of_links.Goals as goal

pub returns : goal.returns
returns c = record { inline = of-inline; references = of-references; strings = of-strings }
