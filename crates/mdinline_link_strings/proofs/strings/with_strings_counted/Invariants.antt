use Rattle.std.specs.Prelude.{◌≡◌, ◌+◌, ◌*◌, ◌≤◌, ◌++◌, length}
use Rattle.markdown_tokenizer.specs.AtPlaces.{AreAtPlaces}
use Rattle.mdinline_link_strings.specs.Costs.{string_size, string_size_from}
use Rattle.mdinline_link_strings.specs.Strings.{with_strings, with_strings_from}
use Rattle.mdinline_link_strings.proofs.strings.with_strings_counted.Given as goal

-- what is written, and what is left with its strings read
abbrev pub invariant-loop-alloc : goal.invariant-loop-alloc
invariant-loop-alloc g l =
    (l.list.0 ++ with_strings_from l.on l.tab l.bytes l.inside l.list.1 ≡ with_strings l.on l.tab l.bytes l.fn.events.items)
    × AreAtPlaces l.tab l.bytes l.list.1
    × (l.turns + 2 * length l.list.1 + 4 * string_size_from l.tab l.bytes l.inside l.list.1 ≤ l.fn.turns + 2 * length l.fn.events.items + 4 * string_size l.tab l.bytes l.fn.events.items)

abbrev pub decreases-loop-alloc : goal.decreases-loop-alloc
decreases-loop-alloc g l = length l.list.1
