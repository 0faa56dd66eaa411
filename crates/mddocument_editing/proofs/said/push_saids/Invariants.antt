use Rattle.std.proofs.Common.{◌≡◌, ◌++◌, drop}
use Rattle.mddocument_editing.proofs.said.push_saids.Given as goal

abbrev pub invariant-loop-index : goal.invariant-loop-index
invariant-loop-index l = l.all.items ++ drop l.index l.saids ≡ l.fn.all.items ++ l.saids
