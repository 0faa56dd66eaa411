use Rattle.mdblock_definitions.proofs.PlainLetters.{open-not-blank}
use Rattle.mddocument_parts.proofs.DocumentLabels.{labels-of-both}
use Rattle.mddocument_parts.proofs.laws.labels_of_both.Goals as goal

pub returns : goal.returns
returns c = labels-of-both open-not-blank
