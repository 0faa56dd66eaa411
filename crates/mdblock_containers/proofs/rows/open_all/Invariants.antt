use Rattle.std.proofs.Common.{◌≡◌, ◌≤◌, ◌+◌, ◌++◌, drop, map}
use Rattle.mdblock_containers.specs.Prefixes.{containers_of}
use Rattle.mdblock_containers.specs.Views.{open_of, begun_of}
use Rattle.mdblock_containers.proofs.rows.open_all.Given as goal

abbrev pub invariant-loop-prefix : goal.invariant-loop-prefix
invariant-loop-prefix g l = record {
  value : map open_of l.stack.items ++ containers_of (begun_of l.of_list l.number (drop l.prefix-index l.begun)) ≡ map open_of l.initial.stack.items ++ containers_of (begun_of l.list l.number l.begun);
  turns : l.turns ≤ l.fn.turns + l.prefix-index;
}
