use Rattle.std.proofs.Common.{◌≡◌, ◌≤◌, ◌+◌, ◌*◌, ◌-◌, take}
use Rattle.mddocument_editing.specs.Listed.{AreSums, part}
use Rattle.mddocument_editing.proofs.list.block_in.Given as goal

abbrev pub invariant-loop-number : goal.invariant-loop-number
invariant-loop-number g l = record {
  within : l.number ≤ l.last;
  sums : AreSums (take (256 * l.number) l.sections) l.front;
  start : part l.is_line l.front ≤ l.place;
  turns : l.turns ≡ l.fn.turns + l.number;
}

abbrev pub decreases-loop-number : goal.decreases-loop-number
decreases-loop-number g l = l.last - l.number
