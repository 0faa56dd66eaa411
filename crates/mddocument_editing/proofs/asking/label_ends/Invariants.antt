use Rattle.mddocument_editing.proofs.Prelude.{◌≡◌, ◌-◌, [], length, take, drop, changes, label_ends, asks_for, knows}
use Rattle.mddocument_editing.proofs.asking.label_ends.Given as goal

abbrev pub invariant-loop-index : goal.invariant-loop-index
invariant-loop-index l = let wanted = asks_for (changes (knows l.old) (knows l.new)) in label_ends wanted [] l.bytes ≡ label_ends wanted (take l.index l.bytes) (drop l.index l.bytes)

abbrev pub decreases-loop-index : goal.decreases-loop-index
decreases-loop-index l = length l.bytes - l.index
