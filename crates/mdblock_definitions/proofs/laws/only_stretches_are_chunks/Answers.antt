use Rattle.mdblock_definitions.proofs.Linked.{of-stretches, of-white}
use Rattle.mdblock_definitions.proofs.laws.only_stretches_are_chunks.Goals as goal

pub returns-clause-chunks : goal.returns-clause-chunks
returns-clause-chunks c = of-stretches

pub returns-clause-white : goal.returns-clause-white
returns-clause-white c = of-white
