use Rattle.std.specs.Prelude.{◌≡◌, ◌+◌, ◌-◌, ◌≤◌, ◌++◌, drop, length}
use Rattle.std.specs.List.{between}
use Rattle.mdinline_links.specs.Linked.{span_at}
use Rattle.mdinline_links.proofs.pieces.span_end.Given as goal

-- the events so far and what is left of the span are the span
abbrev pub invariant-loop-next : goal.invariant-loop-next
invariant-loop-next g l =
    (l.from ≤ l.next) × (l.next ≤ length l.events) × (l.depth ≤ l.next) × (l.turns + l.from ≡ l.fn.turns + l.next)
    × (let p = span_at l.depth (drop l.next l.events) in span_at 0 (drop l.from l.events) ≡ (between l.from l.next l.events ++ p.0, p.1))

abbrev pub decreases-loop-next : goal.decreases-loop-next
decreases-loop-next g l = length l.events - l.next
