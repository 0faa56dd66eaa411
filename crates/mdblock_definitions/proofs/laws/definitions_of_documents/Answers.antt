-- Each group of examples is computed.
use Rattle.mdblock_definitions.proofs.Examples.{of-parts, of-places, of-text, of-containers}
use Rattle.mdblock_definitions.proofs.laws.definitions_of_documents.Goals as goal

pub returns-clause-parts : goal.returns-clause-parts
returns-clause-parts c = of-parts

pub returns-clause-places : goal.returns-clause-places
returns-clause-places c = of-places

pub returns-clause-text : goal.returns-clause-text
returns-clause-text c = of-text

pub returns-clause-containers : goal.returns-clause-containers
returns-clause-containers c = of-containers
