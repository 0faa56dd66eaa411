use Rattle.std.specs.Prelude.{◌+◌, ◌≤◌, List, length}
use Rattle.markdown_base.specs.Virtual.{Seat}
use Rattle.markdown_tokenizer.specs.Cursor.{rest_at}
use Rattle.mdinline_link_strings.specs.Reached.{IsPlainUpto}
use Rattle.mdinline_link_strings.specs.Strings.{seats_between}
use Rattle.mdinline_link_strings.proofs.seats.are_plain_between.Given as goal

-- what was passed so far is plain
abbrev pub invariant-loop-byte : goal.invariant-loop-byte
invariant-loop-byte g l = (done : List Seat) × IsPlainUpto l.t l.bytes (seats_between l.t l.bytes l.from l.to) l.from l.to l.place done × (l.turns ≤ l.fn.turns + length done)

abbrev pub decreases-loop-byte : goal.decreases-loop-byte
decreases-loop-byte g l = length (rest_at l.t l.bytes l.place)
