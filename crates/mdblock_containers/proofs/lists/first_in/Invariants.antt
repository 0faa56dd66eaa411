use Rattle.std.proofs.Common.{◌≡◌, ◌≤◌, drop}
use Rattle.mdblock_containers.specs.Lists.{first_in}
use Rattle.mdblock_containers.proofs.ListLemmas.{first_from}
use Rattle.mdblock_containers.proofs.lists.first_in.Given as goal

abbrev pub invariant-loop-i : goal.invariant-loop-i
invariant-loop-i l = record {
  same : first_from l.name l.depth (drop l.i l.events) ≡ first_in l.name l.events;
  room : l.depth ≤ l.i;
}
