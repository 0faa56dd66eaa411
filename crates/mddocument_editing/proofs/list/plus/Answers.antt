use Rattle.mddocument_editing.proofs.ListSums.{sums-both}
use Rattle.mddocument_editing.proofs.list.plus.Goals as goal

pub returns : goal.returns
returns c = λ xs ys first last. sums-both xs ys c.args.one c.args.more _ first last c.saturating_add.ensures c.saturating_add-2.ensures c.saturating_add-3.ensures
