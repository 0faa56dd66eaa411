use Rattle.mdinline_emphasis.proofs.Prelude.{◌≡◌, ◌+◌, ◌-◌, ◌≤◌, ◌++◌, map, length, drop, runs_from, runs_in, as_run}
use Rattle.mdinline_emphasis.proofs.runs.runs_of_counted.Given as goal

-- the runs so far and those of the other events are all runs
abbrev pub invariant-loop-index : goal.invariant-loop-index
invariant-loop-index g l =
    (map as_run l.runs.items ++ runs_from l.one_tilde l.bytes l.index l.depth l.before (drop l.index l.events) ≡ runs_in l.one_tilde l.bytes l.events)
    × (l.index ≤ length l.events) × (l.depth ≤ l.index) × (l.turns ≤ l.fn.turns + l.index)

abbrev pub decreases-loop-index : goal.decreases-loop-index
decreases-loop-index g l = length l.events - l.index
