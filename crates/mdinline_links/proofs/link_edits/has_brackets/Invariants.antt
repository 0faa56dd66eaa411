use Rattle.std.specs.Prelude.{◌≡◌, ◌+◌, ◌-◌, ◌≤◌, drop, length}
use Rattle.mdinline_links.specs.LinkEdits.{has_brackets}
use Rattle.mdinline_links.proofs.link_edits.has_brackets.Given as goal

-- none is among the events so far
abbrev pub invariant-loop-next : goal.invariant-loop-next
invariant-loop-next g l = (has_brackets (drop l.next l.events) ≡ has_brackets l.events) × (l.next ≤ length l.events) × (l.turns ≡ l.fn.turns + l.next)

abbrev pub decreases-loop-next : goal.decreases-loop-next
decreases-loop-next g l = length l.events - l.next
