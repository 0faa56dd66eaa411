use Rattle.mdinline_emphasis.proofs.Prelude.{◌≡◌, ◌+◌, ◌-◌, ◌*◌, ◌≤◌, List, map, length, Run, SoFar, all_runs, in_turn_from, none_read, as_run, AreBottoms, Stands, kinds_of_runs, markers_left, pairs_a_run, to_pay}
use Rattle.mdinline_emphasis.proofs.pairs.pair_counted.Given as goal

-- some runs were read, and reading the others gives what reading all gives
abbrev pub invariant-loop-closer : goal.invariant-loop-closer
invariant-loop-closer g l =
    (length l.bottoms ≡ kinds_of_runs) × AreBottoms (map as_run l.runs) l.openers.items l.closer l.bottoms
    × ((z : SoFar) × (rest : List Run) × Stands (map as_run l.runs) l.openers.items z rest × (l.closer ≡ length (all_runs z)) × (in_turn_from z rest ≡ in_turn_from none_read (map as_run l.fn.runs)))
    × (l.turns + to_pay (map as_run l.runs) l.openers.items l.bottoms ≤ l.fn.turns + 2 * markers_left (map as_run l.fn.runs) + pairs_a_run * l.closer) × (l.closer ≤ length l.runs)

abbrev pub decreases-loop-closer : goal.decreases-loop-closer
decreases-loop-closer g l = length l.runs - l.closer
