use Rattle.std.proofs.Common.{◌≡◌, ◌≤◌, drop, length}
use Rattle.std.specs.Prelude.{reverse}
use Rattle.mdblock_containers.specs.ListSeen.{AreSeen, all_seen}
use Rattle.mdblock_containers.specs.ListShapes.{shapes_from}
use Rattle.mdblock_containers.proofs.list_shapes.lists_of.Given as goal

abbrev pub invariant-loop-at : goal.invariant-loop-at
invariant-loop-at l = record {
  lists : shapes_from l.bytes l.at (drop l.at l.events) ≡ reverse l.lists.items;
  stack : AreSeen (all_seen l.stack) 0 (drop l.at l.events);
  room : l.at ≤ length l.events;
}

abbrev pub decreases-loop-at : goal.decreases-loop-at
decreases-loop-at l = l.at
