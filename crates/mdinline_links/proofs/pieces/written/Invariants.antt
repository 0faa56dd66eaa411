use Rattle.std.specs.Prelude.{◌≡◌, ◌+◌, ◌-◌, ◌≤◌, ◌++◌, [], length, take}
use Rattle.std.specs.List.{between}
use Rattle.mdinline_links.specs.Costs.{to_write}
use Rattle.mdinline_links.specs.Pieces.{written_from}
use Rattle.mdinline_links.proofs.pieces.written.Given as goal

-- the events so far, and those that stay behind them, are those of the pieces so far
abbrev pub invariant-loop-next : goal.invariant-loop-next
invariant-loop-next g l = record {
  built : l.out.items ++ between l.held.0 l.held.1 l.events ≡ written_from l.events [] (take l.next l.pieces);
  order : l.held.0 ≤ l.held.1;
  inside : l.held.1 ≤ length l.events;
  within : l.next ≤ length l.pieces;
  turns : l.turns ≤ l.fn.turns + to_write (take l.next l.pieces);
}

abbrev pub decreases-loop-next : goal.decreases-loop-next
decreases-loop-next g l = length l.pieces - l.next
