use Rattle.std.proofs.Common.{◌≡◌, ◌≤◌, ◌+◌, ◌++◌, length, take, drop}
use Rattle.mdblock_containers.specs.Frames.{exits_at}
use Rattle.mdblock_containers.proofs.frames.exit_frames.Given as goal

abbrev pub invariant-loop-place : goal.invariant-loop-place
invariant-loop-place g l = record {
  enough : l.many ≤ length l.frames.items;
  front : take l.many l.frames.items ≡ take l.many l.initial.frames.items;
  events : l.events.items ++ exits_at l.place (drop l.many l.frames.items) ≡ l.initial.events.items ++ exits_at l.place (drop l.many l.initial.frames.items);
  turns : l.turns + length l.frames.items ≤ l.fn.turns + length l.initial.frames.items;
}

abbrev pub decreases-loop-place : goal.decreases-loop-place
decreases-loop-place g l = length l.frames.items
