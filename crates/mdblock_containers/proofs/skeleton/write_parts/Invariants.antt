use Rattle.std.proofs.Common.{◌≤◌, ◌+◌, ◌*◌, ◌-◌, length, take, drop, map}
use Rattle.std.specs.Prelude.{false, None}
use Rattle.mdblock_containers.specs.Costs.{IsEnough, columns_in}
use Rattle.mdblock_containers.specs.Frames.{frame_of}
use Rattle.mdblock_containers.specs.Over.{AreEarlier}
use Rattle.mdblock_containers.specs.Rest.{AreLeft, rest_marks}
use Rattle.mdblock_containers.specs.Skeleton.{parts, parts_marks}
use Rattle.mdblock_containers.specs.Stood.{HasSpans, IsStood}
use Rattle.mdblock_containers.specs.Views.{open_of}
use Rattle.mdblock_containers.specs.Written.{Written}
use Rattle.mdblock_containers.proofs.skeleton.write_parts.Given as goal

abbrev pub invariant-loop-i : goal.invariant-loop-i
invariant-loop-i g l = record {
  within : l.i ≤ length l.rows;
  enough : IsEnough l.turns (l.fn.turns + 19 * columns_in (take l.i l.rows)) (length l.frames.items) l.stood.containers l.passed.from l.passed.to (length l.stack.items) (drop l.i g.all);
  left : AreLeft l.bytes l.tab (map open_of l.stack.items) (drop l.i l.rows) (drop l.i g.all);
  passed : AreEarlier (l.i + 1) l.passed.from l.passed.to (map open_of l.stack.items);
  stood : IsStood l.stood (map open_of l.stack.items);
  spans : HasSpans l.frames.items l.stood (map open_of l.stack.items);
  written : Written l.events.items None false (rest_marks l.bytes (map frame_of l.frames.items) l.end (parts (drop l.i g.all))) (parts_marks l.bytes (parts g.all));
}

abbrev pub decreases-loop-i : goal.decreases-loop-i
decreases-loop-i g l = length l.rows - l.i
