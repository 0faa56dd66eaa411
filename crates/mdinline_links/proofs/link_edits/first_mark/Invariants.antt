use Rattle.std.specs.List.{position_or_len}
use Rattle.std.specs.Prelude.{◌≡◌, ◌+◌, ◌-◌, ◌≤◌, drop, length}
use Rattle.mdinline_links.specs.LinkEdits.{is_mark}
use Rattle.mdinline_links.proofs.link_edits.first_mark.Given as goal

-- none is among the events so far
abbrev pub invariant-loop-next : goal.invariant-loop-next
invariant-loop-next g l =
    (l.next + position_or_len is_mark (drop l.next l.events) ≡ position_or_len is_mark l.events) × (l.next ≤ length l.events) × (l.turns ≡ l.fn.turns + l.next)

abbrev pub decreases-loop-next : goal.decreases-loop-next
decreases-loop-next g l = length l.events - l.next
