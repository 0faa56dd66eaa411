use Rattle.std.proofs.Common.{◌≡◌, ◌<◌, ◌≤◌, ◌+◌, ◌*◌, ℕ, Bool, List, length, take, drop, map}
use Rattle.std.specs.Prelude.{Some, None}
use Rattle.mdblock_leaf_blocks.specs.LeafEvents.{Mark}
use Rattle.mdblock_containers.specs.Costs.{columns_in}
use Rattle.mdblock_containers.specs.Stretches.{HasFurther, InStretch}
use Rattle.mdblock_containers.specs.Views.{open_of}
use Rattle.mdblock_containers.proofs.stretches.stretch.Given as goal

abbrev pub invariant-loop-at : goal.invariant-loop-at
invariant-loop-at g l = record {
  turns : l.turns ≤ l.fn.turns + 8 * columns_in (take l.at-index l.more);
  before : (before : ℕ) → l.previous ≡ Some before → before < length l.events.items;
  further : HasFurther l.tab l.bytes (map open_of l.stack) (drop l.at-index l.more);
  state : (is_held : Bool) (rest all : List Mark) → InStretch l.tab l.bytes (map open_of l.stack) is_held l.initial.events.items None l.fn.from l.to l.more rest all
      → InStretch l.tab l.bytes (map open_of l.stack) is_held l.events.items l.previous l.place l.to (drop l.at-index l.more) rest all;
}
