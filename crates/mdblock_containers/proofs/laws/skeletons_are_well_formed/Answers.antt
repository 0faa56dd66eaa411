-- So are the marks of its parts.
use Rattle.mdblock_containers.proofs.SkeletonReady.{skeletons_are_formed}
use Rattle.mdblock_containers.proofs.laws.skeletons_are_well_formed.Goals as goal

pub returns : goal.returns
returns c = skeletons_are_formed
