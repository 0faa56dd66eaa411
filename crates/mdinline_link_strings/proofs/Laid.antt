-- The events of items, by the places between virtual bytes.
use Rattle.std.proofs.Common.{◌≡◌, ◌∙◌, ◌+◌, ◌-◌, ◌≤◌, ◌++◌, ℕ, zero, suc, List, [], ◌∷◌, cond, ap, arith, drop, length, refl, sym, take, le-ltb, lt-ltb}
use Rattle.std.proofs.lemmas.List.{drop-drop, drop-take, take-take}
use Rattle.std.specs.List.{between}
use Rattle.std.specs.Prelude.{map}
use Rattle.markdown_base.specs.declared.event.Event.{Event}
use Rattle.markdown_base.specs.declared.event.Kind.TheVariants.{Enter, Exit}
use Rattle.markdown_base.specs.declared.event.Name.{Name}
use Rattle.markdown_base.specs.declared.event.Name.TheVariants.{CharacterEscape, CharacterEscapeMarker, CharacterEscapeValue, CharacterReference, CharacterReferenceMarker, CharacterReferenceMarkerHexadecimal, CharacterReferenceMarkerNumeric, CharacterReferenceMarkerSemi, CharacterReferenceValue, Data, LineEnding}
use Rattle.markdown_base.specs.declared.event.Point.{Point}
use Rattle.markdown_base.specs.Places.{shown}
use Rattle.markdown_base.specs.Virtual.{Seat, end_after}
use Rattle.mdinline_constructs.specs.Reference.{mark_events, marks}
use Rattle.mdinline_link_strings.specs.declared.items.Item.{Item}
use Rattle.mdinline_link_strings.specs.declared.items.Item.TheVariants as item
use Rattle.mdinline_link_strings.specs.declared.items.Kind.{Kind}
use Rattle.mdinline_link_strings.specs.declared.items.Kind.TheVariants as kind
use Rattle.mdinline_link_strings.specs.declared.seats.Range.{Range}
use Rattle.mdinline_link_strings.specs.Laid.{AreNext, IsRangeOf, bare, end_of, found_of, item_between, kind_of, leaf_between, marks_at, place_at, span_between}
use Rattle.mdinline_text_machine.specs.Parts.{leaf, span}
use Rattle.mdinline_text_machine.specs.TextEvents.{item_events}

-- where some of the virtual bytes end
ends-at : (p : Point) (seats : List Seat) (n : ℕ) → n ≤ length seats → end_after p (take n seats) ≡ place_at (p ∷ map end_of seats) n
ends-at p seats zero h = refl
ends-at p [] (suc n) h = absurd (omega (arith, h))
ends-at p (s ∷ ss) (suc n) h = ends-at s.end ss n (omega (arith, h))

module _ (bytes : List ℕ) where
  ends-shown : (p : Point) (seats : List Seat) (n : ℕ) → AreNext bytes p seats → shown bytes p ≡ p → shown bytes (end_after p (take n seats)) ≡ end_after p (take n seats)
  ends-shown p seats zero h k = k
  ends-shown p [] (suc n) h k = k
  ends-shown p (s ∷ ss) (suc n) h k = ends-shown s.end ss n h.2 h.1

  -- some virtual bytes from an index on: where the first begins, and where the last ends
  record AreSome (l : List Seat) (start end : Point) : Type 0 where
    first : Seat
    more : List Seat
    are : l ≡ first ∷ more
    begins : shown bytes first.point ≡ start
    ends : shown bytes (end_after first.end more) ≡ end

  some-placed : (i m j : ℕ) (p : Point) (seats : List Seat) → AreNext bytes p seats → j ≡ i + suc m → j ≤ length seats
      → AreSome (take (suc m) (drop i seats)) (place_at (p ∷ map end_of seats) i) (place_at (p ∷ map end_of seats) j)
  some-placed zero m zero p seats h e le = absurd (omega (arith, e))
  some-placed zero m (suc k) p [] h e le = absurd (omega (arith, le))
  some-placed zero m (suc k) p (s ∷ ss) h e le =
      let same : m ≡ k = omega (arith, e) in
      let few : m ≤ length ss = omega (arith, e, le) in
      record {
        first = s;
        more = take m ss;
        are = refl;
        begins = h.0;
        ends = ends-shown s.end ss m h.2 h.1 ∙ ends-at s.end ss m few ∙ ap (place_at (s.end ∷ map end_of ss)) same;
      }
  some-placed (suc i) m zero p seats h e le = absurd (omega (arith, e))
  some-placed (suc i) m (suc k) p [] h e le = absurd (omega (arith, le))
  some-placed (suc i) m (suc k) p (s ∷ ss) h e le = some-placed i m k s.end ss h.2 (omega (arith, e)) (omega (arith, le))

  module _ (p : Point) (seats : List Seat) (next : AreNext bytes p seats) where
    abbrev places : List Point
    places = p ∷ map end_of seats

    span-placed : (name : Name) (inside : List Event) (i n j : ℕ) → j ≡ i + n → j ≤ length seats → span bytes name (take n (drop i seats)) inside ≡ span_between places name i j inside
    span-placed name inside i zero j e le =
        let none = le-ltb i j (omega (arith, e)) in
        sym (ap (λ t. cond t (bare Enter name (place_at places i) ∷ (inside ++ bare Exit name (place_at places j) ∷ [])) inside) none)
    span-placed name inside i (suc m) j e le =
        let l = some-placed i m j p seats next e le in
        let some = lt-ltb i j (omega (arith, e)) in
        ap (λ xs. span bytes name xs inside) l.are
        ∙ ap (λ q. bare Enter name q ∷ (inside ++ bare Exit name (shown bytes (end_after l.first.end l.more)) ∷ [])) l.begins
        ∙ ap (λ q. bare Enter name (place_at places i) ∷ (inside ++ bare Exit name q ∷ [])) l.ends
        ∙ sym (ap (λ t. cond t (bare Enter name (place_at places i) ∷ (inside ++ bare Exit name (place_at places j) ∷ [])) inside) some)

    -- what is behind some of the bytes of an item
    behind : (i a rest size : ℕ) → size ≡ a + rest → drop a (take size (drop i seats)) ≡ take rest (drop (i + a) seats)
    behind i a rest size e = ap (λ k. drop a (take k (drop i seats))) e ∙ drop-take a rest (drop i seats) ∙ ap (take rest) (drop-drop a i seats)

    last-placed : (name : Name) (i a rest size from to : ℕ) → size ≡ a + rest → from ≡ i + a → to ≡ i + size → to ≤ length seats → leaf bytes name (drop a (take size (drop i seats))) ≡ leaf_between places name from to
    last-placed name i a rest size from to e f g le =
        ap (leaf bytes name) (behind i a rest size e ∙ ap (λ k. take rest (drop k seats)) (sym f)) ∙ span-placed name [] from rest to (omega (arith, e, f, g)) le

    -- a part of an item
    part-placed : (name : Name) (i a n more size from to : ℕ) → size ≡ a + (n + more) → from ≡ i + a → to ≡ i + (a + n) → i + size ≤ length seats
        → leaf bytes name (take n (drop a (take size (drop i seats)))) ≡ leaf_between places name from to
    part-placed name i a n more size from to e f g le =
        ap (λ l. leaf bytes name (take n l)) (behind i a (n + more) size e)
        ∙ ap (leaf bytes name) (take-take n (n + more) (drop (i + a) seats) (omega arith) ∙ ap (λ k. take n (drop k seats)) (sym f))
        ∙ span-placed name [] from n to (omega (arith, f, g)) (omega (arith, e, g, le))

    -- the marks of a reference
    marks-placed : (k : Kind) (i more size : ℕ) → size ≡ marks (kind_of k) + more → i + size ≤ length seats → mark_events bytes (kind_of k) (take size (drop i seats)) ≡ marks_at places k i
    marks-placed kind.Named i more size e le = part-placed CharacterReferenceMarker i 0 1 more size i (i + 1) (omega (arith, e)) (omega arith) (omega arith) le
    marks-placed kind.Decimal i more size e le =
        let one = part-placed CharacterReferenceMarker i 0 1 (1 + more) size i (i + 1) (omega (arith, e)) (omega arith) (omega arith) le in
        let two = part-placed CharacterReferenceMarkerNumeric i 1 1 more size (i + 1) (i + 2) (omega (arith, e)) (omega arith) (omega arith) le in
        ap (λ es. es ++ leaf bytes CharacterReferenceMarkerNumeric (between 1 2 (take size (drop i seats)))) one ∙ ap (λ es. leaf_between places CharacterReferenceMarker i (i + 1) ++ es) two
    marks-placed kind.Hexadecimal i more size e le =
        let one = part-placed CharacterReferenceMarker i 0 1 (2 + more) size i (i + 1) (omega (arith, e)) (omega arith) (omega arith) le in
        let two = part-placed CharacterReferenceMarkerNumeric i 1 1 (1 + more) size (i + 1) (i + 2) (omega (arith, e)) (omega arith) (omega arith) le in
        let three = part-placed CharacterReferenceMarkerHexadecimal i 2 1 more size (i + 2) (i + 3) (omega (arith, e)) (omega arith) (omega arith) le in
        let l = take size (drop i seats) in
        ap (λ es. es ++ (leaf bytes CharacterReferenceMarkerNumeric (between 1 2 l) ++ leaf bytes CharacterReferenceMarkerHexadecimal (between 2 3 l))) one
        ∙ ap (λ es. leaf_between places CharacterReferenceMarker i (i + 1) ++ (es ++ leaf bytes CharacterReferenceMarkerHexadecimal (between 2 3 l))) two
        ∙ ap (λ es. leaf_between places CharacterReferenceMarker i (i + 1) ++ (leaf_between places CharacterReferenceMarkerNumeric (i + 1) (i + 2) ++ es)) three

    reference-placed : (k : Kind) (n i : ℕ) → i + (found_of (item.Reference k n)).size ≤ length seats
        → item_events bytes (found_of (item.Reference k n), take (found_of (item.Reference k n)).size (drop i seats)) ≡ item_between places (item.Reference k n) i
    reference-placed k n i le =
        let m = marks (kind_of k) in
        let size = m + n + 1 in
        let l = take size (drop i seats) in
        let from = i + m in
        let marked = marks-placed k i (n + 1) size (omega arith) le in
        let long : m + n - m ≡ n = omega arith in
        let value : leaf bytes CharacterReferenceValue (between m (m + n) l) ≡ leaf_between places CharacterReferenceValue from (from + n) =
        ap (λ c. leaf bytes CharacterReferenceValue (take c (drop m l))) long ∙ part-placed CharacterReferenceValue i m n 1 size from (from + n) (omega arith) refl (omega arith) le in
        let last = last-placed CharacterReferenceMarkerSemi i (m + n) 1 size (from + n) (from + n + 1) refl (omega arith) (omega arith) (omega (arith, le)) in
        let inside =
        ap (λ es. es ++ (leaf bytes CharacterReferenceValue (between m (m + n) l) ++ leaf bytes CharacterReferenceMarkerSemi (drop (m + n) l))) marked
        ∙ ap (λ es. marks_at places k i ++ (es ++ leaf bytes CharacterReferenceMarkerSemi (drop (m + n) l))) value
        ∙ ap (λ es. marks_at places k i ++ (leaf_between places CharacterReferenceValue from (from + n) ++ es)) last in
        ap (span bytes CharacterReference l) inside
        ∙ span-placed CharacterReference (marks_at places k i ++ (leaf_between places CharacterReferenceValue from (from + n) ++ leaf_between places CharacterReferenceMarkerSemi (from + n) (from + n + 1))) i size (from + n + 1) (omega arith) (omega (arith, le))

    escape-placed : (i : ℕ) → i + 2 ≤ length seats → item_events bytes (found_of item.Escape, take 2 (drop i seats)) ≡ item_between places item.Escape i
    escape-placed i le =
        let l = take 2 (drop i seats) in
        let one = part-placed CharacterEscapeMarker i 0 1 1 2 i (i + 1) refl (omega arith) (omega arith) le in
        let two = last-placed CharacterEscapeValue i 1 1 2 (i + 1) (i + 2) refl refl refl le in
        let inside =
        ap (λ es. es ++ leaf bytes CharacterEscapeValue (drop 1 l)) one
        ∙ ap (λ es. leaf_between places CharacterEscapeMarker i (i + 1) ++ es) two in
        ap (span bytes CharacterEscape l) inside
        ∙ span-placed CharacterEscape (leaf_between places CharacterEscapeMarker i (i + 1) ++ leaf_between places CharacterEscapeValue (i + 1) (i + 2)) i 2 (i + 2) refl le

    -- the events of an item
    placed : (x : Item) (i : ℕ) → i + (found_of x).size ≤ length seats → item_events bytes (found_of x, take (found_of x).size (drop i seats)) ≡ item_between places x i
    placed item.Ending i le = span-placed LineEnding [] i 1 (i + 1) refl le
    placed (item.Plain n) i le = span-placed Data [] i n (i + n) refl le
    placed item.Escape i le = escape-placed i le
    placed (item.Reference k n) i le = reference-placed k n i le

-- of a range
pub item-placed : (bytes : List ℕ) (seats : List Seat) (r : Range) → IsRangeOf bytes seats r → (x : Item) (i : ℕ) → i + (found_of x).size ≤ length seats
    → item_events bytes (found_of x, take (found_of x).size (drop i seats)) ≡ item_between r.places.items x i
item-placed bytes seats r h x i le = placed bytes h.start seats h.next x i le ∙ ap (λ ps. item_between ps x i) (sym h.places)
