use Rattle.mddocument_editing.proofs.FrontSums.{front-start}
use Rattle.mddocument_editing.proofs.lookup.start_of_counted.Goals as goal

pub returns-clause-start : goal.returns-clause-start
returns-clause-start g c = front-start c.args.kept.now c.requires.kept c.is_short.ensures c.args.section c.in_front-sums.result c.in_front-sums.ensures.sums
