use Rattle.std.proofs.Common.{◌≤◌, ◌+◌, ◌*◌, ◌-◌, length, drop, map}
use Rattle.mdblock_leaf_blocks.specs.LineKinds.{indent}
use Rattle.mdblock_lines.specs.Views.{prefix_of}
use Rattle.mdblock_containers.proofs.GoingLemmas.{AreBegun}
use Rattle.mdblock_containers.proofs.going.beginning.Given as goal

abbrev pub invariant-loop-prefix : goal.invariant-loop-prefix
invariant-loop-prefix g l = record {
  begun : AreBegun l.on l.number l.fn.in_paragraph l.t (map (prefix_of l.number) l.begun.items) l.at l.may_go_on;
  turns : l.turns ≤ l.fn.turns + length l.t + 5 * l.at + indent (drop l.at l.t);
}

abbrev pub decreases-loop-prefix : goal.decreases-loop-prefix
decreases-loop-prefix g l = length l.t - l.at
