-- The definitions compute what is told.
use Rattle.mdblock_containers.proofs.Examples.{of-lists}
use Rattle.mdblock_containers.proofs.laws.lists_of_documents.Goals as goal

-- src/laws.rt:16:1
pub returns : goal.returns
returns c = of-lists
