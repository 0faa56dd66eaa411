use Rattle.mdinline_emphasis.proofs.Prelude.{◌≡◌, ◌-◌, ◌≤◌, false, length, take, drop, in_ranges}
use Rattle.mdinline_emphasis.proofs.classes.is_in.Given as goal

-- the code point is in no range before the low end, and in none from the high end on
abbrev pub invariant-loop-low : goal.invariant-loop-low
invariant-loop-low l =
    (l.low ≤ l.high) × (l.high ≤ length l.ranges) × (in_ranges (take l.low l.ranges) l.code ≡ false) × (in_ranges (drop l.high l.ranges) l.code ≡ false)

abbrev pub decreases-loop-low : goal.decreases-loop-low
decreases-loop-low l = l.high - l.low
