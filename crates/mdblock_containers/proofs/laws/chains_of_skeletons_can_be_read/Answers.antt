-- Each chunk of a stretch stands behind the one before it, with the prefix of a line between.
use Rattle.mdblock_containers.proofs.SkeletonReady.{skeletons_are_ready, skeletons_have_text_in_gaps}
use Rattle.mdblock_containers.proofs.laws.chains_of_skeletons_can_be_read.Goals as goal

pub returns-clause-ready : goal.returns-clause-ready
returns-clause-ready c = skeletons_are_ready

pub returns-clause-gaps : goal.returns-clause-gaps
returns-clause-gaps c = skeletons_have_text_in_gaps
