use Rattle.std.specs.List.{between}
use Rattle.std.specs.Prelude.{◌≡◌, ◌+◌, ◌*◌, ◌-◌, ◌≤◌, ◌++◌, drop, length}
use Rattle.mdinline_link_strings.specs.Costs.{string_size, string_size_from}
use Rattle.mdinline_link_strings.specs.Strings.{with_strings, with_strings_from}
use Rattle.mdinline_link_strings.proofs.strings.put_strings_counted.Given as goal

-- the events that were added, those behind them that stay, and what the others are with their strings read
abbrev pub invariant-loop-next : goal.invariant-loop-next
invariant-loop-next g l =
    (l.out.items ++ (between l.from l.next l.events ++ with_strings_from l.on l.tab l.bytes l.inside (drop l.next l.events)) ≡ with_strings l.on l.tab l.bytes l.events)
    × (l.from ≤ l.next) × (l.next ≤ length l.events)
    × (l.turns + 3 * string_size_from l.tab l.bytes l.inside (drop l.next l.events) ≤ l.fn.turns + l.next + 3 * string_size l.tab l.bytes l.events)

abbrev pub decreases-loop-next : goal.decreases-loop-next
decreases-loop-next g l = length l.events - l.next
