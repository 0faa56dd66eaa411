use Rattle.std.proofs.Common.{◌≡◌, ◌≤◌, drop}
use Rattle.std.specs.List.{list_any}
use Rattle.mdblock_containers.specs.Lists.{block_names, is_spread, items_in}
use Rattle.mdblock_containers.proofs.ListLemmas.{spread_items_from}
use Rattle.mdblock_containers.proofs.lists.has_spread_item.Given as goal

abbrev pub invariant-loop-i : goal.invariant-loop-i
invariant-loop-i l = record {
  same : spread_items_from l.depth (drop l.i l.events) ≡ list_any (λ item. is_spread block_names item.behind) (items_in l.events);
  room : l.depth ≤ l.i;
}
