-- Inner: how far the code has come. No public contract cites this file.
use Rattle.std.specs.Prelude.{◌≡◌, ◌≢◌, ◌+◌, ◌<◌, ◌≤◌, ℕ, Bool, false, List, [], ◌∷◌, ◌++◌, filter, length, drop, map, slice_index}
use Rattle.std.specs.List.{flat_map}
use Rattle.markdown_base.specs.declared.configuration.Constructs.{Constructs}
use Rattle.markdown_base.specs.declared.event.Event.{Event}
use Rattle.markdown_base.specs.declared.event.Point.{Point}
use Rattle.markdown_base.specs.Places.{shown, stands_before}
use Rattle.markdown_base.specs.Virtual.{Seat, end_after}
use Rattle.markdown_tokenizer.specs.Cursor.{IsPlace, rest_at}
use Rattle.mdinline_link_strings.specs.declared.seats.Range.{Range}
use Rattle.mdinline_link_strings.specs.Laid.{AreNext, IsRangeOf, end_of}
use Rattle.mdinline_link_strings.specs.Laws.{ArePlain}
use Rattle.mdinline_link_strings.specs.Strings.{is_data, seats_between}
use Rattle.mdinline_constructs.specs.StringItems.{string_item_at, string_seat_events}
use Rattle.mdinline_text_machine.specs.Items.{item_length}
use Rattle.mdinline_text_machine.specs.Parts.{bytes_of, cut}
use Rattle.mdinline_text_machine.specs.TextEvents.{item_events}

-- what is left from a place up to another
abbrev pub left_upto : (t : ℕ) → List ℕ → (place to : Point) → List Seat
left_upto t bytes place to = filter (λ s. stands_before s.point to) (rest_at t bytes place)

-- From a place on these virtual bytes were passed, one behind another, of those up to another place; the others are left
pub record IsPassedUpto (t : ℕ) (bytes : List ℕ) (seats : List Seat) (from to place : Point) (done : List Seat) : Type 0 where
  pub place_is : IsPlace t bytes place
  pub next : AreNext bytes (shown bytes from) done
  pub ends : end_after (shown bytes from) done ≡ shown bytes place
  pub splits : seats ≡ done ++ left_upto t bytes place to

-- a range has the virtual bytes that were passed, and ends at a place
pub record IsReadUpto (t : ℕ) (bytes : List ℕ) (seats : List Seat) (from to : Point) (r : Range) (place : Point) : Type 0 where
  pub done : List Seat
  pub passed : IsPassedUpto t bytes seats from to place done
  pub has : r.bytes.items ≡ bytes_of done
  pub places : r.places.items ≡ shown bytes from ∷ map end_of done

-- those that were passed are plain, and if none was, the place is the first
pub record IsPlainUpto (t : ℕ) (bytes : List ℕ) (seats : List Seat) (from to place : Point) (done : List Seat) : Type 0 where
  pub passed : IsPassedUpto t bytes seats from to place done
  pub plain : ArePlain done
  pub first : done ≡ [] → place ≡ from

-- a byte that is data wherever it stands in a string: above CR, no backslash and no `&`
abbrev pub IsDataByte : ℕ → Type 0
IsDataByte b = (13 < b) × (b ≢ 92) × (b ≢ 38)

-- so many bytes from a place on are data: all before an index, and if there is one, the place is in no tab
pub record IsDataAhead (bytes : List ℕ) (place : Point) (end n : ℕ) : Type 0 where
  pub flat : 0 < n → place.vs ≡ 0
  pub before : 0 < n → place.index + n ≤ end
  pub inside : 0 < n → place.index + n ≤ length bytes
  pub each : (k : ℕ) → k < n → IsDataByte (slice_index bytes (place.index + k))

-- Virtual bytes from a place up to another are plain data: there is one, none is special, and the places are where they begin and end as they are shown
pub record ArePlainBetween (t : ℕ) (bytes : List ℕ) (from to : Point) : Type 0 where
  pub seat : Seat
  pub seats : List Seat
  pub all : seats_between t bytes from to ≡ seat ∷ seats
  pub plain : ArePlain (seat ∷ seats)
  pub begins : from ≡ shown bytes seat.point
  pub ends : to ≡ shown bytes (end_after seat.end seats)

-- the items of virtual bytes up to an index were added to some events, and those behind it are left
abbrev pub AreAddedUpto : Constructs → Range → (old new : List Event) → ℕ → Type 0
AreAddedUpto on r old new next = (bytes : List ℕ) (seats : List Seat) → IsRangeOf bytes seats r
    → (bound : ℕ) × (length (drop next seats) ≤ bound)
    × (new ++ flat_map (item_events bytes) (cut (string_item_at on) item_length bound (drop next seats)) ≡ old ++ string_seat_events on bytes seats)

-- events begin with a span of data
abbrev pub begins_with_data : List Event → Bool
begins_with_data (e ∷ f ∷ es) = is_data e f
begins_with_data es = false
