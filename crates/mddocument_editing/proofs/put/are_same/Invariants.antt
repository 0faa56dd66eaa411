use Rattle.mddocument_editing.proofs.Prelude.{◌≡◌, take}
use Rattle.mddocument_editing.proofs.put.are_same.Given as goal

abbrev pub invariant-loop-index : goal.invariant-loop-index
invariant-loop-index l = take l.index l.one ≡ take l.index l.other
