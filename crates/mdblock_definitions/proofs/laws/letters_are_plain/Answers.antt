use Rattle.mdblock_definitions.proofs.PlainLetters.{letters-are-plain}
use Rattle.mdblock_definitions.proofs.laws.letters_are_plain.Goals as goal

pub returns : goal.returns
returns c = letters-are-plain
