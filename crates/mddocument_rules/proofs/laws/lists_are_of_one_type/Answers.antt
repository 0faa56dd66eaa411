use Rattle.mddocument_rules.proofs.Markers.{items-have-the-marker, lists-have-one-marker}
use Rattle.mddocument_rules.proofs.Neighbours.{neighbours-differ}
use Rattle.mddocument_rules.proofs.laws.lists_are_of_one_type.Goals as goal

pub returns-clause-markers : goal.returns-clause-markers
returns-clause-markers c = items-have-the-marker

pub returns-clause-lists : goal.returns-clause-lists
returns-clause-lists c = lists-have-one-marker

pub returns-clause-neighbours : goal.returns-clause-neighbours
returns-clause-neighbours c = neighbours-differ
