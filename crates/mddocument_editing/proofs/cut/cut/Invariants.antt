use Rattle.mddocument_editing.proofs.Prelude.{length, items_of}
use Rattle.mddocument_editing.proofs.CutSteps.{IsCut}
use Rattle.mddocument_editing.proofs.cut.cut.Given as goal

abbrev pub invariant-loop-rest : goal.invariant-loop-rest
invariant-loop-rest l = IsCut l.options (items_of l.parts.items) l.rest l.bytes

abbrev pub decreases-loop-rest : goal.decreases-loop-rest
decreases-loop-rest l = length l.rest
