-- Where strings are read, events stand at places of the document.
use Rattle.std.proofs.Common.{◌≡◌, ◌∙◌, ◌+◌, ◌<◌, ◌&&◌, ◌++◌, ℕ, zero, suc, List, [], ◌∷◌, Bool, true, false, cond, Some, append_assoc, drop, length, refl, sym, take}
use Rattle.std.proofs.lemmas.List.Elements.{All-append, All-cons, All-drop, All-filter, All-head, All-nil, All-tail, All-take}
use Rattle.std.specs.Char.{is_ascii_punctuation}
use Rattle.std.specs.List.{between, flat_map}
use Rattle.std.specs.Prelude.{All}
use Rattle.markdown_base.specs.declared.configuration.Constructs.{Constructs}
use Rattle.markdown_base.specs.declared.event.Event.{Event}
use Rattle.markdown_base.specs.declared.event.Kind.TheVariants.{Enter, Exit}
use Rattle.markdown_base.specs.declared.event.Name.{Name}
use Rattle.markdown_base.specs.declared.event.Name.TheVariants.{CharacterEscape, CharacterEscapeMarker, CharacterEscapeValue, CharacterReference, CharacterReferenceMarker, CharacterReferenceMarkerHexadecimal, CharacterReferenceMarkerNumeric, CharacterReferenceMarkerSemi, CharacterReferenceValue, Data, LineEnding}
use Rattle.markdown_base.specs.declared.event.Point.{Point}
use Rattle.markdown_base.specs.Places.{IsPointOf, in_range, shown}
use Rattle.markdown_base.specs.Virtual.{Seat, end_after, virtual}
use Rattle.markdown_tokenizer.proofs.Inside.AtPlaces.{shown-is-point}
use Rattle.markdown_tokenizer.proofs.Positions.SeatLaws.{end-of-is-point, seat-is-point}
use Rattle.markdown_tokenizer.proofs.Positions.Standing.{IsAmong, place-of-point}
use Rattle.markdown_tokenizer.specs.AtPlaces.{AreAtPlaces}
use Rattle.mdinline_constructs.proofs.References.Bytes.{reference-holds}
use Rattle.mdinline_constructs.specs.Reference.{Kind, named, decimal, hexadecimal, mark_events, marks, reference_at}
use Rattle.mdconstructs_machines.specs.Spans.{event}
use Rattle.mdinline_link_strings.specs.Laws.{StringsStandAtPlaces}
use Rattle.mdinline_constructs.specs.StringItems.{string_data, string_grammars, string_item_at, string_part, string_seat_events}
use Rattle.mdinline_link_strings.specs.Strings.{in_string_after, is_data, line_as_string, seats_between, with_strings_from}
use Rattle.mdinline_text_machine.proofs.Constructs.Apart.{OfOption, there-holds, when-there}
use Rattle.mdinline_text_machine.specs.Bytes.{has_byte_at, is_backslash, is_line_feed}
use Rattle.mdinline_text_machine.specs.Construct.{Found}
use Rattle.mdinline_text_machine.specs.Escape.{escape, escape_at}
use Rattle.mdinline_text_machine.specs.Items.{item_length}
use Rattle.mdinline_text_machine.specs.Parts.{bytes_of, cut, leaf, line_ending, part, span}
use Rattle.mdinline_text_machine.specs.TextEvents.{item_events}

module _ (bytes : List ℕ) (At : Point → Type 0) where
  abbrev EventAt : Event → Type 0
  EventAt e = At e.point

  -- where a virtual byte is shown, and where it ends
  abbrev Ends : Seat → Type 0
  Ends s = At (shown bytes s.point) × At (shown bytes s.end)

  last : (s : Seat) (ss : List Seat) → All Ends (s ∷ ss) → At (shown bytes (end_after s.end ss))
  last s [] h = (All-head Ends s [] h).1
  last s (x ∷ xs) h = last x xs (All-tail Ends s (x ∷ xs) h)

  span-at : (name : Name) (seats : List Seat) (es : List Event) → All Ends seats → All EventAt es → All EventAt (span bytes name seats es)
  span-at name [] es h k = k
  span-at name (s ∷ ss) es h k =
      let exit = event bytes Exit name (end_after s.end ss) in
      All-cons EventAt (event bytes Enter name s.point) (es ++ exit ∷ []) (All-head Ends s ss h).0
      (All-append EventAt es (exit ∷ []) k (All-cons EventAt exit [] (last s ss h) (All-nil EventAt)))

  leaf-at : (name : Name) (seats : List Seat) → All Ends seats → All EventAt (leaf bytes name seats)
  leaf-at name seats h = span-at name seats [] h (All-nil EventAt)

  -- a part of virtual bytes
  part-at : (name : Name) (from to : ℕ) (seats : List Seat) → All Ends seats → All EventAt (leaf bytes name (between from to seats))
  part-at name from to seats h = leaf-at name (between from to seats) (All-take Ends _ (drop from seats) (All-drop Ends from seats h))

  behind-at : (name : Name) (from : ℕ) (seats : List Seat) → All Ends seats → All EventAt (leaf bytes name (drop from seats))
  behind-at name from seats h = leaf-at name (drop from seats) (All-drop Ends from seats h)

  abbrev IsFoundAt : Found → Type 0
  IsFoundAt found = (seats : List Seat) → All Ends seats → All EventAt (found.events bytes seats)

  escape-found : (text : List ℕ) → OfOption IsFoundAt (escape_at text)
  escape-found text =
      when-there IsFoundAt (has_byte_at text 0 is_backslash && has_byte_at text 1 is_ascii_punctuation) (Some escape) (λ seats h.
      let one = leaf bytes CharacterEscapeMarker (take 1 seats) in
      let two = leaf bytes CharacterEscapeValue (drop 1 seats) in
      span-at CharacterEscape seats (one ++ two) h (All-append EventAt one two (part-at CharacterEscapeMarker 0 1 seats h) (behind-at CharacterEscapeValue 1 seats h)))

  marks-found : (kind : Kind) (seats : List Seat) → All Ends seats → All EventAt (mark_events bytes kind seats)
  marks-found named seats h = part-at CharacterReferenceMarker 0 1 seats h
  marks-found decimal seats h =
      All-append EventAt (leaf bytes CharacterReferenceMarker (take 1 seats)) (leaf bytes CharacterReferenceMarkerNumeric (between 1 2 seats)) (part-at CharacterReferenceMarker 0 1 seats h) (part-at CharacterReferenceMarkerNumeric 1 2 seats h)
  marks-found hexadecimal seats h =
      let two = leaf bytes CharacterReferenceMarkerNumeric (between 1 2 seats) in
      let three = leaf bytes CharacterReferenceMarkerHexadecimal (between 2 3 seats) in
      All-append EventAt (leaf bytes CharacterReferenceMarker (take 1 seats)) (two ++ three) (part-at CharacterReferenceMarker 0 1 seats h)
      (All-append EventAt two three (part-at CharacterReferenceMarkerNumeric 1 2 seats h) (part-at CharacterReferenceMarkerHexadecimal 2 3 seats h))

  reference-found : (text : List ℕ) → OfOption IsFoundAt (reference_at text)
  reference-found = reference-holds IsFoundAt (λ kind n seats h.
      let from = marks kind in
      let value = leaf bytes CharacterReferenceValue (between from (from + n) seats) in
      let end = leaf bytes CharacterReferenceMarkerSemi (drop (from + n) seats) in
      span-at CharacterReference seats (mark_events bytes kind seats ++ (value ++ end)) h
      (All-append EventAt (mark_events bytes kind seats) (value ++ end) (marks-found kind seats h)
      (All-append EventAt value end (part-at CharacterReferenceValue from (from + n) seats h) (behind-at CharacterReferenceMarkerSemi (from + n) seats h))))

  item-found : (on : Constructs) (text : List ℕ) → IsFoundAt (string_item_at on text)
  item-found on text =
      there-holds IsFoundAt string_grammars on text (string_part text) (escape-found text, (reference-found text, tt)) (elim (has_byte_at text 0 is_line_feed) as (λ t. IsFoundAt (cond t (part line_ending) (string_data text))) [
        | true ↦ λ seats h. leaf-at LineEnding seats h
        | false ↦ λ seats h. leaf-at Data seats h
      ])

  items-at : (on : Constructs) (n : ℕ) (seats : List Seat) → All Ends seats → All EventAt (flat_map (item_events bytes) (cut (string_item_at on) item_length n seats))
  items-at on zero seats h = All-nil EventAt
  items-at on (suc n) [] h = All-nil EventAt
  items-at on (suc n) (s ∷ ss) h =
      let found = string_item_at on (bytes_of (s ∷ ss)) in
      let m = item_length found in
      All-append EventAt (item_events bytes (found, take m (s ∷ ss))) (flat_map (item_events bytes) (cut (string_item_at on) item_length n (drop m (s ∷ ss))))
      (item-found on (bytes_of (s ∷ ss)) (take m (s ∷ ss)) (All-take Ends m (s ∷ ss) h)) (items-at on n (drop m (s ∷ ss)) (All-drop Ends m (s ∷ ss) h))

  -- the events of a string stand where its virtual bytes are shown, or end
  pub string-at : (on : Constructs) (seats : List Seat) → All Ends seats → All EventAt (string_seat_events on bytes seats)
  string-at on seats h = items-at on (length seats) seats h

module _ (on : Constructs) (t : ℕ) (bytes : List ℕ) (d : 0 < t) where
  abbrev At : Point → Type 0
  At p = IsPointOf t bytes p

  shown-at : (p : Point) → At p → At (shown bytes p)
  shown-at p h = shown-is-point t bytes d p (place-of-point t bytes d p h)

  each-ends : (front xs : List Seat) → virtual t bytes ≡ front ++ xs → All (Ends bytes At) xs
  each-ends front [] e = All-nil (Ends bytes At)
  each-ends front (s ∷ ss) e =
      let among : IsAmong s (virtual t bytes) = record { front = front; back = ss; splits = e } in
      All-cons (Ends bytes At) s ss (shown-at s.point (seat-is-point t bytes s among), shown-at s.end (end-of-is-point t bytes d s among))
      (each-ends (front ++ s ∷ []) ss (e ∙ sym (append_assoc front (s ∷ []) ss)))

  line-at : (p q : Point) → AreAtPlaces t bytes (line_as_string on t bytes p q)
  line-at p q = string-at bytes At on (seats_between t bytes p q) (All-filter (in_range p q) (Ends bytes At) (virtual t bytes) (each-ends [] (virtual t bytes) refl))

-- what holds of the events of each line holds of all, if it did before
module _ (on : Constructs) (t : ℕ) (bytes : List ℕ) (P : Event → Type 0) (line : (p q : Point) → All P (line_as_string on t bytes p q)) where
  pub list-each : (inside : Bool) (es : List Event) → All P es → All P (with_strings_from on t bytes inside es)
  list-each inside [] h = h
  list-each inside (e ∷ []) h = h
  list-each inside (e ∷ f ∷ es) h =
      let later = All-tail P e (f ∷ es) h in
      let here = line_as_string on t bytes e.point f.point in
      let rest = with_strings_from on t bytes inside es in
      let other = with_strings_from on t bytes (in_string_after inside e) (f ∷ es) in
      elim (inside && is_data e f) as (λ b. All P (cond b (here ++ rest) (e ∷ other))) [
        | true ↦ All-append P here rest (line e.point f.point) (list-each inside es (All-tail P f es later))
        | false ↦ All-cons P e other (All-head P e (f ∷ es) h) (list-each (in_string_after inside e) (f ∷ es) later)
      ]

pub stand_at_places : StringsStandAtPlaces
stand_at_places on t bytes es d h = list-each on t bytes (λ e. IsPointOf t bytes e.point) (line-at on t bytes d) false es h
