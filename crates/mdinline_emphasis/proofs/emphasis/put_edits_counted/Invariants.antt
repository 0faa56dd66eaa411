use Rattle.mdinline_emphasis.proofs.Prelude.{◌≡◌, ◌+◌, ◌-◌, ◌≤◌, map, length, take, edits_of, ends_of_pairs, as_run}
use Rattle.mdinline_emphasis.proofs.emphasis.put_edits_counted.Given as goal

-- the edits so far are those of the runs so far
abbrev pub invariant-loop-next : goal.invariant-loop-next
invariant-loop-next g l = (l.edits ≡ edits_of (map as_run (take l.next l.runs))) × (l.next ≤ length l.runs) × (l.turns ≤ l.fn.turns + l.next + ends_of_pairs (map as_run (take l.next l.runs)))

abbrev pub decreases-loop-next : goal.decreases-loop-next
decreases-loop-next g l = length l.runs - l.next
