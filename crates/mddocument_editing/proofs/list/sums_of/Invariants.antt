use Rattle.std.proofs.Common.{◌≡◌, ◌+◌, take}
use Rattle.mddocument_editing.specs.Listed.{AreSums}
use Rattle.mddocument_editing.proofs.list.sums_of.Given as goal

abbrev pub invariant-loop-section : goal.invariant-loop-section
invariant-loop-section g l = record {
  sums : AreSums (take l.section-index l.sections) l.sums;
  turns : l.turns ≡ l.fn.turns + l.section-index;
}
