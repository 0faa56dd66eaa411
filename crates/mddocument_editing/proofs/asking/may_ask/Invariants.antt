use Rattle.mddocument_editing.proofs.Prelude.{◌≡◌, ◌-◌, length, drop, changes, may_ask, asks_for, knows}
use Rattle.mddocument_editing.proofs.asking.may_ask.Given as goal

abbrev pub invariant-loop-index : goal.invariant-loop-index
invariant-loop-index l = let wanted = asks_for (changes (knows l.old) (knows l.new)) in may_ask wanted l.bytes ≡ may_ask wanted (drop l.index l.bytes)

abbrev pub decreases-loop-index : goal.decreases-loop-index
decreases-loop-index l = length l.bytes - l.index
