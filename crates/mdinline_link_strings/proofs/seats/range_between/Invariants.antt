use Rattle.std.specs.Prelude.{◌≡◌, ◌+◌, length}
use Rattle.markdown_tokenizer.specs.Cursor.{rest_at}
use Rattle.mdinline_link_strings.specs.Reached.{IsReadUpto}
use Rattle.mdinline_link_strings.specs.Strings.{seats_between}
use Rattle.mdinline_link_strings.proofs.seats.range_between.Given as goal

-- what was read so far is the front of the range
abbrev pub invariant-loop-byte : goal.invariant-loop-byte
invariant-loop-byte g l = IsReadUpto l.t l.bytes (seats_between l.t l.bytes l.from l.to) l.from l.to l.range l.place × (l.turns ≡ l.fn.turns + length l.range.bytes.items)

abbrev pub decreases-loop-byte : goal.decreases-loop-byte
decreases-loop-byte g l = length (rest_at l.t l.bytes l.place)
