use Rattle.std.proofs.Common.{◌≡◌, ◌≤◌, ◌+◌, ◌++◌, drop, map}
use Rattle.std.specs.List.{flat_map}
use Rattle.mdblock_containers.specs.Frames.{frame_of}
use Rattle.mdblock_containers.specs.Skeleton.{frames_of}
use Rattle.mdblock_containers.specs.Views.{open_of}
use Rattle.mdblock_containers.proofs.frames.push_frames.Given as goal

abbrev pub invariant-loop-entry : goal.invariant-loop-entry
invariant-loop-entry g l = record {
  value : map frame_of l.frames.items ++ flat_map frames_of (map open_of (drop l.entry-index l.stack)) ≡ map frame_of l.initial.frames.items ++ flat_map frames_of (map open_of l.stack);
  turns : l.turns ≤ l.fn.turns + l.entry-index;
}
