use Rattle.mdblock_definitions.proofs.SectionsReady.{skeletons-are-formed}
use Rattle.mdblock_definitions.proofs.laws.skeletons_are_well_formed.Goals as goal

pub returns : goal.returns
returns c = skeletons-are-formed
