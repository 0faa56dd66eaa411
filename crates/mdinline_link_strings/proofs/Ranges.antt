-- The virtual bytes from a place up to another, read one after another.
use Rattle.std.proofs.Common.{◌≡◌, ◌∙◌, ◌<◌, ◌&&◌, ◌++◌, ℕ, List, [], ◌∷◌, true, false, ap, append_assoc, refl, subst, sym}
use Rattle.std.proofs.lemmas.List.{append-nil, map-append}
use Rattle.std.proofs.lemmas.List.Elements.{filter-append}
use Rattle.std.specs.Prelude.{filter, map, not}
use Rattle.markdown_base.proofs.Common.{every-map, filter-none}
use Rattle.markdown_base.proofs.Seats.{end-after-one}
use Rattle.markdown_base.specs.declared.event.Point.{Point}
use Rattle.markdown_base.specs.Places.{IsPointOf, shown, stands_before}
use Rattle.markdown_base.specs.Virtual.{Seat, end_after}
use Rattle.markdown_tokenizer.specs.Cursor.{IsPlace, IsSeatAt, rest_at}
use Rattle.markdown_base.specs.Places.{in_range}
use Rattle.markdown_tokenizer.proofs.Positions.Order.{filter-same, later-later}
use Rattle.markdown_tokenizer.proofs.Positions.Seats.{rest-later}
use Rattle.markdown_tokenizer.proofs.Positions.Standing.{next-begins, place-of-point, seat-shown, steps}
use Rattle.mdinline_link_strings.specs.declared.seats.Range.{Range}
use Rattle.mdinline_link_strings.specs.Laid.{AreNext, IsRangeOf, end_of}
use Rattle.mdinline_link_strings.specs.Reached.{IsPassedUpto, IsReadUpto, left_upto}
use Rattle.mdinline_link_strings.specs.Strings.{seats_between}
use Rattle.mdinline_text_machine.specs.Parts.{bytes_of}

module _ (t : ℕ) (bytes : List ℕ) where
  -- those from a place on are what is left there, up to the end
  pub range-left : (p q : Point) → IsPlace t bytes p → seats_between t bytes p q ≡ left_upto t bytes p q
  range-left p q place =
      let f = in_range p q in
      let rest = rest_at t bytes p in
      let before = filter-none f place.before (every-map (λ s. stands_before s.point p ≡ true) (λ s. f s ≡ false) (λ s h. ap (λ b. not b && stands_before s.point q) h) place.before place.behind) in
      let later = filter-same f (λ s. stands_before s.point q) rest (every-map (λ s. stands_before s.point p ≡ false) (λ s. f s ≡ stands_before s.point q) (λ s h. ap (λ b. not b && stands_before s.point q) h) rest (rest-later t bytes p)) in
      ap (filter f) place.splits ∙ filter-append f place.before rest ∙ ap (λ xs. xs ++ filter f rest) before ∙ later

  -- if the next one is not before the end, none is left
  pub left-none : (p q : Point) (s : Seat) → IsSeatAt t bytes p s → stands_before s.point q ≡ false → left_upto t bytes p q ≡ []
  left-none p q s n h =
      let f = λ (r : Seat). stands_before r.point q in
      let one = filter-none f (rest_at t bytes s.point) (every-map (λ r. stands_before r.point s.point ≡ false) (λ r. f r ≡ false)
      (λ r k. later-later r.point.index r.point.vs s.point.index s.point.vs q.index q.vs k h) (rest_at t bytes s.point) (rest-later t bytes s.point)) in
      ap (filter f) (sym n.same) ∙ one

  -- else it is the first of what is left
  pub left-more : (d : 0 < t) (p q r : Point) (s : Seat) → IsPlace t bytes p → IsSeatAt t bytes p s → r ≡ s.end → stands_before s.point q ≡ true → left_upto t bytes p q ≡ s ∷ left_upto t bytes r q
  left-more d p q r s place n is h =
      let f = λ (x : Seat). stands_before x.point q in
      ap (filter f) (steps t bytes d p s place n r is).1 ∙ (rw h refl)

-- one more behind others
next-push : (bytes : List ℕ) (p : Point) (xs : List Seat) (s : Seat) → AreNext bytes p xs → shown bytes s.point ≡ end_after p xs → shown bytes s.end ≡ s.end → AreNext bytes p (xs ++ s ∷ [])
next-push bytes p [] s h k e = (k, e, tt)
next-push bytes p (x ∷ xs) s h k e = (h.0, h.1, next-push bytes x.end xs s h.2 k e)

module _ (t : ℕ) (bytes : List ℕ) (d : 0 < t) where
  -- where bytes begin to be passed
  pub begins-passing : (from to : Point) → IsPointOf t bytes from → IsPassedUpto t bytes (seats_between t bytes from to) from to from []
  begins-passing from to is =
      let place = place-of-point t bytes d from is in
      record { place_is = place; next = tt; ends = refl; splits = range-left t bytes from to place }

  -- one more is passed
  pub passes-more : (seats : List Seat) (from to place r : Point) (s : Seat) (done : List Seat) → IsPassedUpto t bytes seats from to place done
      → IsSeatAt t bytes place s → r ≡ s.end → stands_before s.point to ≡ true → IsPassedUpto t bytes seats from to r (done ++ s ∷ [])
  passes-more seats from to place r s done h n is before =
      let shows = seat-shown t bytes d place s h.place_is n in
      let begins = (next-begins t bytes d place s h.place_is n).shown_is ∙ sym h.place_is.stands ∙ sym h.ends in
      record {
        place_is = (steps t bytes d place s h.place_is n r is).0;
        next = next-push bytes (shown bytes from) done s h.next begins shows;
        ends = end-after-one (shown bytes from) done s ∙ sym (ap (shown bytes) is ∙ shows);
        splits =
            h.splits ∙ ap (λ xs. done ++ xs) (left-more t bytes d place to r s h.place_is n is before)
            ∙ sym (append_assoc done (s ∷ []) (left_upto t bytes r to));
      }

  -- all are passed
  pub all-passed : (seats : List Seat) (from to place : Point) (done : List Seat) → IsPassedUpto t bytes seats from to place done → left_upto t bytes place to ≡ [] → seats ≡ done
  all-passed seats from to place done h none = h.splits ∙ ap (λ xs. done ++ xs) none ∙ append-nil done

  -- where reading begins
  pub begins-reading : (from to : Point) (r : Range) → IsPointOf t bytes from → r.bytes.items ≡ [] → r.places.items ≡ shown bytes from ∷ []
      → IsReadUpto t bytes (seats_between t bytes from to) from to r from
  begins-reading from to r is none one = record { done = []; passed = begins-passing from to is; has = none; places = one }

  -- one more is read
  pub reads-more : (seats : List Seat) (from to : Point) (old new : Range) (place r : Point) (s : Seat) (byte : ℕ) → IsReadUpto t bytes seats from to old place
      → IsSeatAt t bytes place s → s.byte ≡ byte → r ≡ s.end → stands_before s.point to ≡ true
      → new.bytes.items ≡ old.bytes.items ++ byte ∷ [] → new.places.items ≡ old.places.items ++ r ∷ [] → IsReadUpto t bytes seats from to new r
  reads-more seats from to old new place r s byte h n same is before bs ps = record {
    done = h.done ++ s ∷ [];
    passed = passes-more seats from to place r s h.done h.passed n is before;
    has = bs ∙ ap (λ xs. xs ++ byte ∷ []) h.has ∙ ap (λ b. bytes_of h.done ++ b ∷ []) (sym same) ∙ sym (map-append (λ x. x.byte) h.done (s ∷ []));
    places = ps ∙ ap (λ xs. xs ++ r ∷ []) h.places ∙ ap (λ p. shown bytes from ∷ (map end_of h.done ++ p ∷ [])) is ∙ ap (λ xs. shown bytes from ∷ xs) (sym (map-append end_of h.done (s ∷ [])));
  }

  -- all is read
  pub all-read : (seats : List Seat) (from to : Point) (r : Range) (place : Point) (h : IsReadUpto t bytes seats from to r place) → left_upto t bytes place to ≡ [] → IsRangeOf bytes seats r
  all-read seats from to r place h none =
      subst (λ xs. IsRangeOf bytes xs r) (sym (all-passed seats from to place h.done h.passed none))
      (record { has = h.has; start = shown bytes from; places = h.places; next = h.passed.next })
