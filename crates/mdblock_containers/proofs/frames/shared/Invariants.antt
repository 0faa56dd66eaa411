use Rattle.std.proofs.Common.{◌≡◌, ◌≤◌, ◌+◌, ◌-◌, length, drop, map}
use Rattle.mdblock_containers.specs.Frames.{frame_of}
use Rattle.mdblock_containers.specs.Skeleton.{shared}
use Rattle.mdblock_containers.proofs.frames.shared.Given as goal

abbrev pub invariant-loop-n : goal.invariant-loop-n
invariant-loop-n g l = record {
  within : l.n ≤ length l.fs;
  inside : l.n ≤ length l.gs;
  turns : l.turns ≤ l.fn.turns + l.n;
  same : shared (map frame_of l.fs) (map frame_of l.gs) ≡ l.n + shared (map frame_of (drop l.n l.fs)) (map frame_of (drop l.n l.gs));
}

abbrev pub decreases-loop-n : goal.decreases-loop-n
decreases-loop-n g l = length l.fs - l.n
