-- Inner: virtual bytes of a range, with the places between them, and the items that the code finds. No public contract cites this file.
use Rattle.std.specs.Prelude.{◌≡◌, ℕ, ◌+◌, ◌≤◌, List, [], ◌∷◌, ◌++◌, cond, drop, nat_lt, map, length, slice_index_or, Option, Some, None}
use Rattle.std.specs.List.{position_or_len}
use Rattle.markdown_base.specs.declared.event.Event.{Event}
use Rattle.markdown_base.specs.declared.event.Kind.{Kind as EventKind}
use Rattle.markdown_base.specs.declared.event.Kind.TheVariants.{Enter, Exit}
use Rattle.markdown_base.specs.declared.event.Name.{Name}
use Rattle.markdown_base.specs.declared.event.Name.TheVariants.{CharacterEscape, CharacterEscapeMarker, CharacterEscapeValue, CharacterReference, CharacterReferenceMarker, CharacterReferenceMarkerHexadecimal, CharacterReferenceMarkerNumeric, CharacterReferenceMarkerSemi, CharacterReferenceValue, Data, LineEnding}
use Rattle.markdown_base.specs.declared.event.Point.{Point}
use Rattle.markdown_base.specs.Places.{shown}
use Rattle.markdown_base.specs.Virtual.{Seat, point}
use Rattle.mdinline_constructs.specs.Reference.{Kind, named, decimal, hexadecimal, marks, reference, reference_at, value_at}
use Rattle.mdinline_link_strings.specs.declared.items.Item.{Item}
use Rattle.mdinline_link_strings.specs.declared.items.Item.TheVariants as item
use Rattle.mdinline_link_strings.specs.declared.items.Kind.{Kind as CodeKind}
use Rattle.mdinline_link_strings.specs.declared.items.Kind.TheVariants as kind
use Rattle.mdinline_link_strings.specs.declared.seats.Range.{Range}
use Rattle.mdinline_constructs.specs.StringItems.{is_string_special}
use Rattle.mdinline_text_machine.specs.Bytes.{has_byte_at, is_line_feed}
use Rattle.mdinline_text_machine.specs.Construct.{Found}
use Rattle.mdinline_text_machine.specs.Escape.{escape}
use Rattle.mdinline_text_machine.specs.Parts.{bytes_of, line_ending, part, plain_run}

-- ---- virtual bytes with the places between them

-- where a virtual byte ends
abbrev pub end_of : Seat → Point
end_of s = s.end

-- virtual bytes stand one behind another from a place on, if each is shown where the one before it ends
abbrev pub AreNext : List ℕ → Point → List Seat → Type 0
AreNext bytes p [] = Unit {0}
AreNext bytes p (s ∷ ss) = (shown bytes s.point ≡ p) × (shown bytes s.end ≡ s.end) × AreNext bytes s.end ss

-- a range has these virtual bytes of a document: where they begin, and where each ends
pub record IsRangeOf (bytes : List ℕ) (seats : List Seat) (r : Range) : Type 0 where
  pub has : r.bytes.items ≡ bytes_of seats
  pub start : Point
  pub places : r.places.items ≡ start ∷ map end_of seats
  pub next : AreNext bytes start seats

-- a range has one place more than bytes
abbrev pub IsRange : Range → Type 0
IsRange r = length r.places.items ≡ length r.bytes.items + 1

-- ---- items

-- a kind of references
abbrev pub kind_of : CodeKind → Kind
kind_of kind.Named = named
kind_of kind.Decimal = decimal
kind_of kind.Hexadecimal = hexadecimal

-- what an item is
abbrev pub found_of : Item → Found
found_of item.Ending = part line_ending
found_of (item.Plain n) = part (plain_run n)
found_of item.Escape = escape
found_of (item.Reference k n) = reference (kind_of k) n

-- what a reference of a kind is, if there is one with a value of so many bytes
abbrev pub found_reference : CodeKind × ℕ → Found
found_reference r = reference (kind_of r.0) r.1

-- how many bytes behind the first one come before a special one; of a line ending none count
abbrev pub plain_ahead : List ℕ → ℕ
plain_ahead text = cond (has_byte_at text 0 is_line_feed) 0 (position_or_len is_string_special (drop 1 text))

-- a text begins with the marks of a kind of references: if its value is behind them, there is one
pub record BeginsReference (text : List ℕ) (k : Kind) : Type 0 where
  pub is : reference_at text ≡ value_at k (drop (marks k) text)
  pub long : marks k ≤ length text
  pub ahead : position_or_len is_string_special (drop (marks k) text) ≤ plain_ahead text

-- the kind of the reference that may be at the front of a text
abbrev pub IsKindAt : List ℕ → Option CodeKind → Type 0
IsKindAt text None = reference_at text ≡ None
IsKindAt text (Some k) = BeginsReference text (kind_of k)

-- ---- events by places

-- an event with no link
abbrev pub bare : EventKind → Name → Point → Event
bare kind name p = record { kind = kind; name = name; point = p; link = None }

module _ (places : List Point) where
  -- a place by its index
  abbrev pub place_at : ℕ → Point
  place_at i = slice_index_or places i (point 1 1 0 0)

  -- a span from one index up to another, around events; if there is nothing between them, the events alone
  abbrev pub span_between : Name → (i j : ℕ) → List Event → List Event
  span_between name i j inside = cond (nat_lt i j) (bare Enter name (place_at i) ∷ (inside ++ bare Exit name (place_at j) ∷ [])) inside

  abbrev pub leaf_between : Name → (i j : ℕ) → List Event
  leaf_between name i j = span_between name i j []

  -- the marks before a value
  abbrev pub marks_at : CodeKind → ℕ → List Event
  marks_at kind.Named i = leaf_between CharacterReferenceMarker i (i + 1)
  marks_at kind.Decimal i = leaf_between CharacterReferenceMarker i (i + 1) ++ leaf_between CharacterReferenceMarkerNumeric (i + 1) (i + 2)
  marks_at kind.Hexadecimal i =
      leaf_between CharacterReferenceMarker i (i + 1)
      ++ (leaf_between CharacterReferenceMarkerNumeric (i + 1) (i + 2) ++ leaf_between CharacterReferenceMarkerHexadecimal (i + 2) (i + 3))

  -- the events of an item that begins at an index
  abbrev pub item_between : Item → ℕ → List Event
  item_between item.Ending i = leaf_between LineEnding i (i + 1)
  item_between (item.Plain n) i = leaf_between Data i (i + n)
  item_between item.Escape i = span_between CharacterEscape i (i + 2) (leaf_between CharacterEscapeMarker i (i + 1) ++ leaf_between CharacterEscapeValue (i + 1) (i + 2))
  item_between (item.Reference k n) i =
      let from = i + marks (kind_of k) in
      span_between CharacterReference i (from + n + 1)
      (marks_at k i ++ (leaf_between CharacterReferenceValue from (from + n) ++ leaf_between CharacterReferenceMarkerSemi (from + n) (from + n + 1)))
