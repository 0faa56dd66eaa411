use Rattle.mddocument_editing.proofs.Prelude.{◌≡◌, ◌++◌, ◌≤◌, drop, length}
use Rattle.std.specs.Prelude.{reverse}
use Rattle.mddocument_link_targets.specs.Spans.{size_from}
use Rattle.mddocument_editing.specs.Exits.{exits_from}
use Rattle.mddocument_editing.specs.Said.{link_labels}
use Rattle.mddocument_editing.proofs.linking.push_all.Given as goal

abbrev pub invariant-loop-at : goal.invariant-loop-at
invariant-loop-at l = record {
  labels : l.all.items ≡ l.fn.all.items ++ link_labels l.bytes (drop l.at l.events);
  exits : reverse l.exits.items ≡ exits_from l.at (drop l.at l.events);
  own : l.own_size ≡ size_from 0 (drop 1 (drop l.at l.events));
  room : l.at ≤ length l.events;
}

abbrev pub decreases-loop-at : goal.decreases-loop-at
decreases-loop-at l = l.at
