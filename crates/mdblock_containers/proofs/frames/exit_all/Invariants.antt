use Rattle.std.proofs.Common.{◌≡◌, ◌≤◌, ◌+◌, ◌++◌, length, take}
use Rattle.mdblock_containers.specs.Frames.{exits_at}
use Rattle.mdblock_containers.proofs.frames.exit_all.Given as goal

abbrev pub invariant-loop-left : goal.invariant-loop-left
invariant-loop-left g l = record {
  within : l.left ≤ length l.frames;
  events : l.events.items ++ exits_at l.place (take l.left l.frames) ≡ l.initial.events.items ++ exits_at l.place l.frames;
  turns : l.turns + l.left ≤ l.fn.turns + length l.frames;
}

abbrev pub decreases-loop-left : goal.decreases-loop-left
decreases-loop-left g l = l.left
