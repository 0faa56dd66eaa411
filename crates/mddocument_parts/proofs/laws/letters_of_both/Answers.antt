use Rattle.mdblock_definitions.proofs.PlainLetters.{open-not-blank}
use Rattle.mddocument_parts.proofs.DocumentLabels.{letters-of-both}
use Rattle.mddocument_parts.proofs.laws.letters_of_both.Goals as goal

pub returns : goal.returns
returns c = letters-of-both open-not-blank
