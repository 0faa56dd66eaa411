use Rattle.mdblock_definitions.proofs.Without.{definitions-need-brackets, blocks-need-brackets}
use Rattle.mdblock_definitions.proofs.laws.definitions_need_brackets.Goals as goal

pub returns-clause-skeleton : goal.returns-clause-skeleton
returns-clause-skeleton c = definitions-need-brackets

pub returns-clause-blocks : goal.returns-clause-blocks
returns-clause-blocks c = blocks-need-brackets
