use Rattle.mdblock_definitions.proofs.Without.{definitions-can-be-off, blocks-can-be-without}
use Rattle.mdblock_definitions.proofs.laws.definitions_can_be_off.Goals as goal

pub returns-clause-skeleton : goal.returns-clause-skeleton
returns-clause-skeleton c = definitions-can-be-off

pub returns-clause-blocks : goal.returns-clause-blocks
returns-clause-blocks c = blocks-can-be-without
