use Rattle.std.specs.Prelude.{◌≡◌, ◌+◌, ◌-◌, ◌≤◌, drop, length}
use Rattle.std.specs.List.{prefix_len}
use Rattle.mdinline_constructs.specs.Reference.{is_value_byte}
use Rattle.mdinline_link_strings.specs.Laid.{kind_of}
use Rattle.mdinline_link_strings.proofs.items.value_size.Given as goal

-- what was passed, and what is left of the value
abbrev pub invariant-loop-next : goal.invariant-loop-next
invariant-loop-next g l =
    (l.next + prefix_len (is_value_byte (kind_of l.kind)) (drop l.next l.text) ≡ prefix_len (is_value_byte (kind_of l.kind)) l.text)
    × (l.next ≤ length l.text) × (l.turns ≡ l.fn.turns + l.next)

abbrev pub decreases-loop-next : goal.decreases-loop-next
decreases-loop-next g l = length l.text - l.next
