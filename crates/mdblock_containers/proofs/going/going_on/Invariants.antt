use Rattle.std.proofs.Common.{◌≡◌, ◌⊎◌, ◌+◌, ◌≤◌, length, drop, map}
use Rattle.mdblock_leaf_blocks.specs.LineKinds.{indent}
use Rattle.mdblock_containers.specs.Over.{AreBefore, AreOver}
use Rattle.mdblock_containers.specs.Prefixes.{going_on, columns_of}
use Rattle.mdblock_containers.specs.Views.{open_of}
use Rattle.mdblock_containers.proofs.going.going_on.Given as goal

abbrev pub invariant-loop-entry : goal.invariant-loop-entry
invariant-loop-entry g l = record {
  many : length (going_on (map open_of l.stack) l.number l.t) ≡ l.entry-index + length (going_on (map open_of (drop l.entry-index l.stack)) l.number (drop l.at l.t));
  columns : columns_of (going_on (map open_of l.stack) l.number l.t) ≡ l.at + columns_of (going_on (map open_of (drop l.entry-index l.stack)) l.number (drop l.at l.t));
  count : l.many ≡ l.entry-index;
  within : l.at ≤ length l.t;
  first : l.first ≡ l.at + indent (drop l.at l.t);
  over : AreBefore l.number l.stack → AreOver (l.number + 1) l.from l.entry-index l.stack;
  filled : l.from ≤ l.at;
  stopped : (l.many ≤ l.from) ⊎ ((length l.t ≤ l.at) × (l.many ≤ l.fn.over));
  turns : l.turns ≤ l.fn.turns + 1 + l.first + l.many;
}
