-- Each group of examples is computed.
use Rattle.mdblock_containers.proofs.Examples.{few, no-containers, of-quotes, of-items, of-both}
use Rattle.mdblock_containers.proofs.laws.skeletons_of_documents.Goals as goal

-- src/laws.rt:7:1
pub returns-clause-few : goal.returns-clause-few
returns-clause-few c = few

-- src/laws.rt:7:1
pub returns-clause-no_containers : goal.returns-clause-no_containers
returns-clause-no_containers c = no-containers

-- src/laws.rt:7:1
pub returns-clause-quotes : goal.returns-clause-quotes
returns-clause-quotes c = of-quotes

-- src/laws.rt:7:1
pub returns-clause-items : goal.returns-clause-items
returns-clause-items c = of-items

-- src/laws.rt:7:1
pub returns-clause-both : goal.returns-clause-both
returns-clause-both c = of-both
