use Rattle.mddocument_editing.proofs.AskedAgain.{brackets-decide}
use Rattle.mddocument_editing.proofs.AskedInBrackets.{asked-in-brackets}
use Rattle.mddocument_editing.proofs.laws.asked_labels_are_in_brackets.Goals as goal

pub returns-clause-asked : goal.returns-clause-asked
returns-clause-asked c = asked-in-brackets

pub returns-clause-decide : goal.returns-clause-decide
returns-clause-decide c = brackets-decide
