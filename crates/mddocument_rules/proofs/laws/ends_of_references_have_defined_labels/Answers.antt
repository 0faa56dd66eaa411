use Rattle.mddocument_rules.proofs.EndReasons.{ends-are-references}
use Rattle.mddocument_rules.proofs.laws.ends_of_references_have_defined_labels.Goals as goal

pub returns : goal.returns
returns c = ends-are-references
