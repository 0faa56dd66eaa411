use Rattle.mdinline_emphasis.proofs.Prelude.{◌≡◌, ◌+◌, ◌≤◌, ◌++◌, map, length, take, drop, AreDisjoint, edits_of, ends_of_pairs, as_run}
use Rattle.mdinline_emphasis.proofs.RunEdits.{placed_from}
use Rattle.mdinline_emphasis.proofs.emphasis.placed_counted.Given as goal

-- the events so far and those that are left, with the other runs in place, are the whole list
abbrev pub invariant-loop-run : goal.invariant-loop-run
invariant-loop-run g l = record {
  built : l.out.items ++ placed_from (map as_run (drop l.run-index l.runs)) l.from (drop l.from l.events) ≡ placed_from (map as_run l.runs) 0 l.events;
  apart : AreDisjoint l.from (edits_of (map as_run (drop l.run-index l.runs))) (length l.events);
  turns : l.turns ≤ l.fn.turns + l.run-index + ends_of_pairs (map as_run (take l.run-index l.runs));
}
