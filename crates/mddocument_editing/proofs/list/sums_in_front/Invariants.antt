use Rattle.std.proofs.Common.{◌≡◌, ◌+◌, ◌*◌, take}
use Rattle.mddocument_editing.specs.Listed.{AreSums}
use Rattle.mddocument_editing.proofs.list.sums_in_front.Given as goal

abbrev pub invariant-loop-number : goal.invariant-loop-number
invariant-loop-number g l = record {
  sums : AreSums (take (256 * l.number) l.sections) l.sums;
  turns : l.turns ≡ l.fn.turns + l.number;
}
