use Rattle.std.specs.Prelude.{◌≡◌, ◌+◌, ◌-◌, ◌≤◌, drop, length}
use Rattle.std.specs.List.{position_or_len}
use Rattle.mdinline_constructs.specs.StringItems.{is_string_special}
use Rattle.mdinline_link_strings.proofs.items.plain_size.Given as goal

-- what was passed, and what is left before a special byte
abbrev pub invariant-loop-next : goal.invariant-loop-next
invariant-loop-next g l =
    (l.next + position_or_len is_string_special (drop l.next l.text) ≡ position_or_len is_string_special l.text) × (l.next ≤ length l.text) × (l.turns ≡ l.fn.turns + l.next)

abbrev pub decreases-loop-next : goal.decreases-loop-next
decreases-loop-next g l = length l.text - l.next
