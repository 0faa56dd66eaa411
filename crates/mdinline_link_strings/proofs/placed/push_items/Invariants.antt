use Rattle.std.specs.Prelude.{◌+◌, ◌*◌, ◌-◌, ◌≤◌, length}
use Rattle.mdinline_link_strings.specs.Reached.{AreAddedUpto}
use Rattle.mdinline_link_strings.proofs.placed.push_items.Given as goal

-- the items so far were added
abbrev pub invariant-loop-next : goal.invariant-loop-next
invariant-loop-next g l = AreAddedUpto l.on l.range l.fn.out.items l.out.items l.next × (l.next ≤ length l.text) × (l.turns ≤ l.fn.turns + 2 * l.next)

abbrev pub decreases-loop-next : goal.decreases-loop-next
decreases-loop-next g l = length l.text - l.next
