use Rattle.std.proofs.Common.{◌+◌, ◌-◌, ◌<◌, ◌≤◌, ℕ, length}
use Rattle.std.specs.Prelude.{slice_index}
use Rattle.mdinline_link_strings.specs.Reached.{IsDataByte}
use Rattle.mdinline_link_strings.proofs.data.byte_size.Given as goal

-- the bytes so far are data
abbrev pub invariant-loop-next : goal.invariant-loop-next
invariant-loop-next g l = ((k : ℕ) → k < l.next → IsDataByte (slice_index l.text k)) × (l.next ≤ length l.text) × (l.turns ≤ l.fn.turns + l.next)

abbrev pub decreases-loop-next : goal.decreases-loop-next
decreases-loop-next g l = length l.text - l.next
