use Rattle.mdinline_emphasis.proofs.Prelude.{◌≡◌, ◌+◌, ◌-◌, ◌≤◌, ◌++◌, length, drop, later, closings, markers_of_all}
use Rattle.mdinline_emphasis.proofs.emphasis.push_closed.Given as goal

-- the events so far and those of the other pairs are all events, and the other markers reach to the same place
abbrev pub invariant-loop-next : goal.invariant-loop-next
invariant-loop-next g l =
    (l.events.items ++ closings l.point (drop l.next l.closed) ≡ l.fn.events.items ++ closings l.fn.start l.closed)
    × (later (markers_of_all (drop l.next l.closed)) l.point ≡ later (markers_of_all l.closed) l.fn.start)
    × (l.next ≤ length l.closed) × (l.turns ≡ l.fn.turns + l.next)

abbrev pub decreases-loop-next : goal.decreases-loop-next
decreases-loop-next g l = length l.closed - l.next
