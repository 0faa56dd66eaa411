use Rattle.std.proofs.Common.{◌≡◌, ◌+◌, ◌-◌, ◌<◌, ◌≤◌, ℕ, false, get_or, length}
use Rattle.markdown_base.specs.declared.event.Event.{Event}
use Rattle.mdinline_link_strings.specs.Strings.{is_string}
use Rattle.mdinline_link_strings.proofs.names.blocks_outside.Given as goal

-- no string begins or ends at the events so far
abbrev pub invariant-loop-next : goal.invariant-loop-next
invariant-loop-next g l = ((d : Event) → (k : ℕ) → k < l.next → is_string (get_or l.events k d).name ≡ false) × (l.next ≤ length l.events) × (l.turns ≤ l.fn.turns + l.next)

abbrev pub decreases-loop-next : goal.decreases-loop-next
decreases-loop-next g l = length l.events - l.next
