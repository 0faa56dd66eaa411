use Rattle.std.proofs.Common.{◌≡◌, ◌≤◌, drop}
use Rattle.mdblock_containers.specs.Lists.{is_spread}
use Rattle.mdblock_containers.proofs.ListLemmas.{spread_from}
use Rattle.mdblock_containers.proofs.lists.is_spread.Given as goal

abbrev pub invariant-loop-event : goal.invariant-loop-event
invariant-loop-event l = record {
  same : spread_from l.names l.known l.depth (drop l.event-index l.events) ≡ is_spread l.names l.events;
  room : l.depth ≤ l.event-index;
}
