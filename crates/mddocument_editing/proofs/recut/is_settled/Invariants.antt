use Rattle.mddocument_editing.proofs.Prelude.{◌≡◌, ◌-◌, length, drop, is_settled}
use Rattle.mddocument_editing.proofs.recut.is_settled.Given as goal

abbrev pub invariant-loop-index : goal.invariant-loop-index
invariant-loop-index l = is_settled (drop l.index l.bytes) ≡ is_settled l.bytes

abbrev pub decreases-loop-index : goal.decreases-loop-index
decreases-loop-index l = length l.bytes - l.index
