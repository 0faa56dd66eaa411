use Rattle.std.specs.Prelude.{◌≡◌, ◌+◌, ◌*◌, ◌-◌, ◌≤◌, length}
use Rattle.mdinline_link_strings.specs.Reached.{AreAddedUpto}
use Rattle.mdinline_link_strings.proofs.placed.write_items.Given as goal

-- the items so far were written, and what is left stays
abbrev pub invariant-loop-next : goal.invariant-loop-next
invariant-loop-next g l =
    AreAddedUpto l.on l.range l.fn.list.0 l.list.0 l.next × (l.list.1 ≡ l.fn.list.1) × (l.next ≤ length l.text) × (l.turns ≤ l.fn.turns + 2 * l.next)

abbrev pub decreases-loop-next : goal.decreases-loop-next
decreases-loop-next g l = length l.text - l.next
