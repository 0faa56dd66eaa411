-- Items of a range are added, one after another.
use Rattle.std.proofs.Common.{◌≡◌, ◌∙◌, ◌+◌, ◌≤◌, ◌<◌, ◌++◌, ℕ, zero, suc, List, [], ◌∷◌, ap, append_assoc, arith, drop, length, refl, sym, take}
use Rattle.std.proofs.lemmas.List.{append-nil, drop-drop, drop-map, drop_all, length-drop, length-map}
use Rattle.std.specs.List.{flat_map}
use Rattle.markdown_base.specs.declared.configuration.Constructs.{Constructs}
use Rattle.markdown_base.specs.declared.event.Event.{Event}
use Rattle.markdown_base.specs.Virtual.{Seat}
use Rattle.mdinline_link_strings.proofs.Laid.{item-placed}
use Rattle.mdinline_link_strings.specs.declared.items.Item.{Item}
use Rattle.mdinline_link_strings.specs.declared.seats.Range.{Range}
use Rattle.mdinline_link_strings.specs.Laid.{IsRangeOf, found_of, item_between}
use Rattle.mdinline_link_strings.specs.Reached.{AreAddedUpto}
use Rattle.mdinline_constructs.specs.StringItems.{string_item_at, string_seat_events}
use Rattle.mdinline_text_machine.specs.Construct.{Found}
use Rattle.mdinline_text_machine.specs.Items.{item_length}
use Rattle.mdinline_text_machine.specs.Parts.{bytes_of, cut}
use Rattle.mdinline_text_machine.specs.TextEvents.{item_events}

module _ (on : Constructs) (bytes : List ℕ) where
  abbrev events_of : ℕ → List Seat → List Event
  events_of bound l = flat_map (item_events bytes) (cut (string_item_at on) item_length bound l)

  none-left : (bound : ℕ) → events_of bound [] ≡ []
  none-left zero = refl
  none-left (suc bound) = refl

  -- the first item, and those behind it
  record AreFirstAndRest (bound : ℕ) (l : List Seat) (x : Found) : Type 0 where
    rest : ℕ
    enough : length (drop x.size l) ≤ rest
    are : events_of bound l ≡ item_events bytes (x, take x.size l) ++ events_of rest (drop x.size l)

  first-and-rest : (bound : ℕ) (l : List Seat) (x : Found) → 0 < length l → length l ≤ bound → string_item_at on (bytes_of l) ≡ x → 0 < x.size → AreFirstAndRest bound l x
  first-and-rest bound [] x some enough is more = absurd (omega (arith, some))
  first-and-rest zero (s ∷ ss) x some enough is more = absurd (omega (arith, enough))
  first-and-rest (suc m) (s ∷ ss) x some enough is more =
      let long = length-drop x.size (s ∷ ss) in
      record {
        rest = m;
        enough = omega (arith, long, enough, more);
        are = ap (λ (y : Found). item_events bytes (y, take y.size (s ∷ ss)) ++ events_of m (drop y.size (s ∷ ss))) is;
      }

module _ (on : Constructs) (r : Range) (old : List Event) where
  pub added-first : AreAddedUpto on r old old 0
  added-first bytes seats h = (length seats, (omega arith), refl)

  pub added-more : (mid new : List Event) (next : ℕ) (x : Item) → AreAddedUpto on r old mid next → next < length r.bytes.items
      → found_of x ≡ string_item_at on (drop next r.bytes.items) → 0 < (found_of x).size → next + (found_of x).size ≤ length r.bytes.items
      → new ≡ mid ++ item_between r.places.items x next → AreAddedUpto on r old new (next + (found_of x).size)
  added-more mid new next x before inside is some fits added bytes seats h =
      let so_far = before bytes seats h in
      let size = (found_of x).size in
      let long = ap length h.has ∙ length-map seats (λ s. s.byte) in
      let l = drop next seats in
      let left = length-drop next seats in
      let item : string_item_at on (bytes_of l) ≡ found_of x = ap (string_item_at on) (sym (ap (drop next) h.has ∙ drop-map (λ s. s.byte) next seats)) ∙ sym is in
      let parts = first-and-rest on bytes so_far.0 l (found_of x) (omega (arith, inside, long, left)) so_far.1 item some in
      let behind = drop-drop size next seats in
      let events = item-placed bytes seats r h x next (omega (arith, fits, long)) in
      let enough = ap length behind in (
        parts.rest,
        (let e = parts.enough in omega (arith, e, enough)),
        ap (λ es. es ++ events_of on bytes parts.rest (drop (next + size) seats)) added
            ∙ append_assoc mid (item_between r.places.items x next) (events_of on bytes parts.rest (drop (next + size) seats))
            ∙ ap (λ l. mid ++ (item_between r.places.items x next ++ events_of on bytes parts.rest l)) (sym behind)
            ∙ ap (λ es. mid ++ (es ++ events_of on bytes parts.rest (drop size l))) (sym events)
            ∙ ap (λ es. mid ++ es) (sym parts.are)
            ∙ so_far.2,
      )

  pub all-added : (new : List Event) (next : ℕ) → AreAddedUpto on r old new next → length r.bytes.items ≤ next → (bytes : List ℕ) (seats : List Seat) → IsRangeOf bytes seats r
      → new ≡ old ++ string_seat_events on bytes seats
  all-added new next before end bytes seats h =
      let so_far = before bytes seats h in
      let long = ap length h.has ∙ length-map seats (λ s. s.byte) in
      let none = drop_all next seats (omega (arith, end, long)) in
      sym (append-nil new) ∙ ap (λ es. new ++ es) (sym (ap (events_of on bytes so_far.0) none ∙ none-left on bytes so_far.0)) ∙ so_far.2
