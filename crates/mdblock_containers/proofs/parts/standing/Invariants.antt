use Rattle.std.proofs.Common.{◌≡◌, ◌≤◌, ◌+◌, min, length, take, map}
use Rattle.std.specs.Prelude.{max, reverse}
use Rattle.mdblock_containers.specs.Over.{AreEarlier}
use Rattle.mdblock_containers.specs.Skeleton.{left_in}
use Rattle.mdblock_containers.specs.Views.{open_of}
use Rattle.mdblock_containers.proofs.parts.standing.Given as goal

abbrev pub invariant-loop-n : goal.invariant-loop-n
invariant-loop-n g l = record {
  within : l.n ≤ length l.stack;
  least : min (length l.stack) l.many ≤ l.n;
  most : l.n ≤ max l.fn.passed l.many;
  asked : l.turns + l.n ≤ l.fn.turns + max l.fn.passed l.many;
  turns : l.turns + l.n ≤ l.fn.turns + length l.stack;
  passed : AreEarlier l.number l.n (length l.stack) (map open_of l.stack);
  same : left_in l.many l.number (reverse (map open_of l.stack)) ≡ left_in l.many l.number (reverse (map open_of (take l.n l.stack)));
}

abbrev pub decreases-loop-n : goal.decreases-loop-n
decreases-loop-n g l = l.n
