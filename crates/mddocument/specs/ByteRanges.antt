-- Ranges of a document that are read as one text. What comes: which ranges can be (`AreRanges`), their virtual bytes (`seats_in`), and
-- the events of these (`text_events_in`).
use Rattle.std.specs.Prelude.{◌≡◌, ◌⊎◌, ◌<◌, ◌≤◌, ◌&&◌, nat_le, nat_lt, ℕ, Bool, true, List, [], ◌∷◌, filter, length}
use Rattle.std.specs.List.{flat_map}
use Rattle.markdown_base.specs.declared.configuration.ParseOptions.{ParseOptions}
use Rattle.markdown_base.specs.declared.event.Event.{Event}
use Rattle.markdown_base.specs.Lines.{HasNoLineEnding, is_line_start}
use Rattle.markdown_base.specs.Virtual.{Seat, virtual}
use Rattle.mdinline_text_machine.specs.TextEvents.{seat_events}
use Rattle.mddocument.specs.declared.ranges.ByteRange.{ByteRange}

-- from where a range ends, another can go on at an index: it is the same, or a line starts where the range ends, and the index is in it
abbrev pub GoesOn : List ℕ → (end from : ℕ) → Type 0
GoesOn bytes end from = (from ≡ end) ⊎ ((end < from) × (is_line_start bytes end ≡ true) × HasNoLineEnding bytes end from)

-- A range can be read behind one that ends at this index
pub record IsRangeFrom (bytes : List ℕ) (end : ℕ) (range : ByteRange) : Type 0 where
  pub forward : range.from ≤ range.to
  pub inside : range.to ≤ length bytes
  pub goes_on : GoesOn bytes end range.from

-- ranges can be read one after another, behind one that ends at this index
abbrev pub FollowFrom : List ℕ → (end : ℕ) → List ByteRange → Type 0
FollowFrom bytes end [] = Unit {0}
FollowFrom bytes end (range ∷ ranges) = IsRangeFrom bytes end range × FollowFrom bytes range.to ranges

-- Ranges can be read as one text. The first begins anywhere
abbrev pub AreRanges : List ℕ → List ByteRange → Type 0
AreRanges bytes [] = Unit {0}
AreRanges bytes (range ∷ ranges) = FollowFrom bytes range.from (range ∷ ranges)

-- a virtual byte is in a range, by the index of its byte; a CR LF is at its LF
abbrev pub is_in : ByteRange → Seat → Bool
is_in range s = nat_le range.from s.point.index && nat_lt s.point.index range.to

-- the virtual bytes in ranges, one range after another
abbrev pub seats_in : (t : ℕ) → List ℕ → List ByteRange → List Seat
seats_in t bytes ranges = flat_map (λ range. filter (is_in range) (virtual t bytes)) ranges

-- The events of ranges of a document, read as one text
abbrev pub text_events_in : ParseOptions → List ℕ → List ByteRange → List Event
text_events_in options bytes ranges = seat_events options.constructs bytes (seats_in options.tab_size bytes ranges)
