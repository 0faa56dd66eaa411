use Rattle.mddocument_rules.proofs.MarkedLists.{lists-are-named-by-markers, lists-are-of-one-type}
use Rattle.mddocument_rules.proofs.laws.items_have_the_marker_of_their_list.Goals as goal

pub returns-clause-items : goal.returns-clause-items
returns-clause-items c = lists-are-of-one-type

pub returns-clause-names : goal.returns-clause-names
returns-clause-names c = lists-are-named-by-markers
