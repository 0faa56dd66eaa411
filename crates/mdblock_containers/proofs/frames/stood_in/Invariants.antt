use Rattle.std.proofs.Common.{◌≤◌, ◌+◌, min, map}
use Rattle.mdblock_containers.specs.Stood.{IsStood}
use Rattle.mdblock_containers.specs.Views.{open_of}
use Rattle.mdblock_containers.proofs.frames.stood_in.Given as goal

abbrev pub invariant-loop-containers : goal.invariant-loop-containers
invariant-loop-containers g l = record {
  is : IsStood (record { containers = l.containers; spans = l.spans }) (map open_of l.stack);
  fewer : l.containers ≤ l.fn.stood.containers;
  least : min l.fn.stood.containers l.many ≤ l.containers;
  turns : l.turns + l.containers ≤ l.fn.turns + l.fn.stood.containers;
}

abbrev pub decreases-loop-containers : goal.decreases-loop-containers
decreases-loop-containers g l = l.containers
