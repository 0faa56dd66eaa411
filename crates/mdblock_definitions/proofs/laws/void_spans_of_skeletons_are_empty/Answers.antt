use Rattle.mdblock_definitions.proofs.SectionTight.{skeletons-are-void-tight, skeletons-have-chunks}
use Rattle.mdblock_definitions.proofs.laws.void_spans_of_skeletons_are_empty.Goals as goal

pub returns-clause-empty : goal.returns-clause-empty
returns-clause-empty c = skeletons-are-void-tight

pub returns-clause-chunks : goal.returns-clause-chunks
returns-clause-chunks c = skeletons-have-chunks
