use Rattle.mdinline_emphasis.proofs.Prelude.{◌+◌, ◌≡◌, ◌≤◌, drop, length, map, as_run, last_of, waiting_from}
use Rattle.mdinline_emphasis.proofs.pairs.opener_for.Given as goal

-- those that were looked at do not fit, and none of them is before the bottom
abbrev pub invariant-loop-at : goal.invariant-loop-at
invariant-loop-at g l =
    (l.at ≤ length l.openers)
    × (last_of (map as_run l.runs) l.openers (as_run l.closer) (length l.openers) ≡ last_of (map as_run l.runs) l.openers (as_run l.closer) l.at)
    × (l.turns + l.at ≡ l.fn.turns + length l.openers)
    × (length l.openers ≤ l.at + waiting_from l.bottom (drop l.at l.openers))

abbrev pub decreases-loop-at : goal.decreases-loop-at
decreases-loop-at g l = l.at
