use Rattle.std.proofs.Common.{◌≤◌, ◌+◌, ◌*◌, ◌-◌, take}
use Rattle.mddocument_editing.specs.Listed.{AreSums, part}
use Rattle.mddocument_editing.proofs.list.section_in.Given as goal

abbrev pub invariant-loop-index : goal.invariant-loop-index
invariant-loop-index g l = record {
  order : 256 * l.block ≤ l.index;
  within : l.index ≤ l.last;
  sums : AreSums (take l.index l.sections) l.front;
  start : part l.is_line l.front ≤ l.place;
  turns : l.turns ≤ l.fn.turns + l.block + (l.index - 256 * l.block);
}

abbrev pub decreases-loop-index : goal.decreases-loop-index
decreases-loop-index g l = l.last - l.index
