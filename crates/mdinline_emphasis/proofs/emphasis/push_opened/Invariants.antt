use Rattle.mdinline_emphasis.proofs.Prelude.{◌≡◌, ◌+◌, ◌≤◌, ◌++◌, length, take, reverse, later, openings, markers_of_all}
use Rattle.mdinline_emphasis.proofs.emphasis.push_opened.Given as goal

-- the events so far and those of the other pairs are all events, and the other markers reach to the same place
abbrev pub invariant-loop-left : goal.invariant-loop-left
invariant-loop-left g l =
    (l.events.items ++ openings l.point (reverse (take l.left l.opened)) ≡ l.fn.events.items ++ openings l.fn.start (reverse l.opened))
    × (later (markers_of_all (reverse (take l.left l.opened))) l.point ≡ later (markers_of_all (reverse l.opened)) l.fn.start)
    × (l.left ≤ length l.opened) × (l.turns + l.left ≡ l.fn.turns + length l.opened)

abbrev pub decreases-loop-left : goal.decreases-loop-left
decreases-loop-left g l = l.left
