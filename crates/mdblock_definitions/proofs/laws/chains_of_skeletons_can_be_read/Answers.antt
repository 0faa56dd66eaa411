use Rattle.mdblock_definitions.proofs.SectionsReady.{skeletons-are-ready, skeletons-have-one-content, skeletons-have-text-in-gaps}
use Rattle.mdblock_definitions.proofs.laws.chains_of_skeletons_can_be_read.Goals as goal

pub returns-clause-content : goal.returns-clause-content
returns-clause-content c = skeletons-have-one-content

pub returns-clause-ready : goal.returns-clause-ready
returns-clause-ready c = skeletons-are-ready

pub returns-clause-gaps : goal.returns-clause-gaps
returns-clause-gaps c = skeletons-have-text-in-gaps
