use Rattle.mdinline_emphasis.proofs.Prelude.{◌≡◌, ℕ, ◌+◌, ◌≤◌, List, map, length, slice_get, Run, SoFar, close, as_run, left_of, AreBottoms, StandsAt, kinds_of_runs, to_pay}
use Rattle.mdinline_emphasis.proofs.pairs.take_up.Given as goal

-- heights hold; and whatever the runs stood for, they stand for what is reached after some pairs
abbrev pub invariant-closing : goal.invariant-closing
invariant-closing g l =
    (length l.bottoms ≡ kinds_of_runs) × AreBottoms (map as_run l.runs) l.openers.items l.closer l.bottoms
    × ((z : SoFar) (r : Run) (rest : List Run) → StandsAt (map as_run l.fn.runs) l.fn.openers.items l.fn.closer z r rest
    → (z' : SoFar) × (r' : Run) × StandsAt (map as_run l.runs) l.openers.items l.closer z' r' rest × (n : ℕ) × (r'.left ≤ n) × (close n r' z' ≡ close r.left r z))
    × (l.turns + to_pay (map as_run l.runs) l.openers.items l.bottoms ≤ l.fn.turns + to_pay (map as_run l.fn.runs) l.fn.openers.items l.fn.bottoms)

abbrev pub decreases-closing : goal.decreases-closing
decreases-closing g l = left_of (slice_get (map as_run l.runs) l.closer)
