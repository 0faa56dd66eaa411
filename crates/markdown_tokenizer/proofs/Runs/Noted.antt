-- The places of a byte that are noted: they are places of the document, in order.
use Rattle.markdown_tokenizer.proofs.Prelude.{◌≡◌, ◌+◌, ◌<◌, ◌∙◌, ℕ, zero, suc, List, [], ◌∷◌, ◌++◌, true, false, Some, None, length, refl, sym, ap, subst, arith, slice_get, slice_get_within, append_assoc, All, All-push, All-weaker, AllByRecursion, every-get, Point, Event, Seat, Enter, Exit, point, virtual, end_after, shown, IsPlace, stands_before, stands-self, end-after-append, Given, Text, IsText, at_configuration, consumed, Byte, Nothing, sight_in, end_place, rest_at, false≢true}
use Rattle.markdown_tokenizer.specs.declared.tokenizer.noted.Noted.{Noted}
use Rattle.markdown_tokenizer.specs.Calls.{noting, place_of}
use Rattle.markdown_tokenizer.specs.Noted.{AreNoted, BytesHavePlaces, NoteOnceRead, EventsKeepNoted}
use Rattle.markdown_tokenizer.proofs.Positions.Order.{later-later, after-before}
use Rattle.markdown_tokenizer.proofs.Positions.Chains.{IsChain, whole-chain}
use Rattle.markdown_tokenizer.proofs.Positions.Standing.{IsAmong, chain-split, chain-upto, place-of-point, seat-begins, shown-shown}
use Rattle.markdown_tokenizer.proofs.Positions.SeatLaws.{end-of-is-point, seat-is-point}
use Rattle.markdown_tokenizer.proofs.Positions.TextOrder.{text-order, order-get, there, begins-before_end, ends-before_next}
use Rattle.markdown_tokenizer.proofs.Inside.AtPlaces.{shown-is-point}
use Rattle.markdown_tokenizer.proofs.Runs.Alike.{text-in, IsIn}

-- seats of which each passes a test begin a list up to a seat that does not
before-it : (P : Seat → Type 0) (xs rest front back : List Seat) (s : Seat) → xs ++ rest ≡ front ++ s ∷ back → AllByRecursion P xs → (P s → ⊥)
    → (mid : List Seat) × (front ≡ xs ++ mid)
before-it P [] rest front back s e h out = (front, refl)
before-it P (x ∷ xs) rest [] back s e h out = let is : x ≡ s = cc in absurd (out (subst P is h.0))
before-it P (x ∷ xs) rest (f ∷ fs) back s e h out =
    let is : f ≡ x = cc in let same : xs ++ rest ≡ fs ++ s ∷ back = cc in
    let (mid, splits) = before-it P xs rest fs back s same h.1 out in
    (mid, ap (λ (ys : List Seat). f ∷ ys) splits ∙ ap (λ (y : Seat). y ∷ (xs ++ mid)) is)

module _ (t : ℕ) (bytes : List ℕ) (d : 0 < t) where
  -- where a byte that does not begin before a place is shown is not before where the place is shown
  shown-order : (p : Point) → IsPlace t bytes p → (s : Seat) → IsAmong s (virtual t bytes) → stands_before s.point p ≡ false → stands_before (shown bytes s.point) (shown bytes p) ≡ false
  shown-order p place s among later =
      let (mid, splits) = before-it (λ r. stands_before r.point p ≡ true) place.before (rest_at t bytes p) among.front among.back s (sym place.splits ∙ among.splits) place.behind (λ b. false≢true (sym later ∙ b)) in
      let start = point 1 1 0 0 in
      let e : virtual t bytes ≡ place.before ++ (mid ++ s ∷ among.back) = among.splits ∙ ap (λ (xs : List Seat). xs ++ s ∷ among.back) splits ∙ append_assoc place.before mid (s ∷ among.back) in
      let upto = chain-upto t bytes (end_after start place.before) mid (s ∷ among.back)
      (chain-split t bytes start place.before (mid ++ s ∷ among.back) (subst (IsChain t bytes start) e (whole-chain t bytes d))) in
      let here : shown bytes s.point ≡ end_after (end_after start place.before) mid =
      (seat-begins t bytes d among.front s among.back among.splits).shown_is ∙ ap (end_after start) splits ∙ end-after-append start place.before mid in
      rw (here, place.stands) upto

module _ (g : Given) (text : Text) (is : IsText g text) where
  wide : 0 < g.tab
  wide = omega (arith, is.document.tab.0)

  in-document : (p : ℕ) (s : Seat) → slice_get text.seats p ≡ Some s → IsAmong s (virtual g.tab g.bytes)
  in-document p s at = (every-get (IsIn g text.end) text.seats p s (text-in g text is) at).1

  -- the place after the bytes before is one of the document, and the next byte does not begin before it
  end-is-place : (p : ℕ) (s : Seat) → slice_get text.seats p ≡ Some s → IsPlace g.tab g.bytes (end_place text p) × (stands_before s.point (end_place text p) ≡ false)
  end-is-place zero s at = (place-of-point g.tab g.bytes wide text.start is.starts, every-get (λ r. stands_before r.point text.start ≡ false) text.seats 0 s (text-order g text is).1 at)
  end-is-place (suc q) s at =
      let (r, before) = there text q (omega (arith, slice_get_within text.seats (suc q) s at)) in
      let order = order-get g.bytes text.seats q r (text-order g text is).0 before in
      rw before (place-of-point g.tab g.bytes wide r.end (end-of-is-point g.tab g.bytes wide r (in-document q r before)), (order.1 s at).1)

-- the places of a byte of a text
pub bytes-have-places : BytesHavePlaces
bytes-have-places g text p is inside =
    let (s, at) = there text p inside in
    let d = wide g text is in
    let end = end-is-place g text is p s at in
    let among = in-document g text is p s at in
    let place = place-of-point g.tab g.bytes d s.point (seat-is-point g.tab g.bytes s among) in (
      record {
        exit_place = shown-is-point g.tab g.bytes d (end_place text p) end.0;
        exit_shown = shown-shown g.tab g.bytes (end_place text p);
        enter_place = rw at (shown-is-point g.tab g.bytes d s.point place);
        enter_shown = rw at (shown-shown g.tab g.bytes s.point);
        order = rw at (shown-order g.tab g.bytes d (end_place text p) end.0 s among end.1);
      },
      ends-before_next g text p is inside,
      begins-before_end g text p is inside,
    )

-- the end of a byte that waits is where an exit is once it is consumed
next-upto : (g : Given) (text : Text) (p : ℕ) (q : Point) → p < length text.seats
    → stands_before (sight_in g text p Byte).next q ≡ false → stands_before (sight_in g text (p + 1) Nothing).exit_place q ≡ false
next-upto g text p q inside h =
    let (s, at) = there text p inside in
    let next : p + 1 ≡ suc p = omega arith in
    rw next (rw at (rw at at h))

-- an event that is not before the one place is not before another that is not after it
behind-both : (n : Noted) (events : List Event) → stands_before n.enter n.exit ≡ false → All (λ e. stands_before n.exit e.point ≡ false) events → All (λ e. stands_before n.enter e.point ≡ false) events
behind-both n events order h = All-weaker (λ (e : Event). stands_before n.exit e.point ≡ false) (λ e. stands_before n.enter e.point ≡ false)
    (λ e k. later-later n.enter.index n.enter.vs n.exit.index n.exit.vs e.point.index e.point.vs order k) events h

module _ {M R D : Type 0} where
  pub note-once_read : NoteOnceRead M R D
  note-once_read t is inside waits behind =
      let p = t.configuration.position in
      let s = sight_in t.given t.text p Byte in
      let n = place_of s in
      let places = bytes-have-places t.given t.text p is inside in
      let upto : (q : Point) → stands_before q s.next ≡ true → stands_before (sight_in t.given t.text (p + 1) Nothing).exit_place q ≡ false =
      λ q before. next-upto t.given t.text p q inside (after-before q.index q.vs s.next.index s.next.vs before) in
      let all : AreNoted n (at_configuration t (consumed (noting n t.configuration))) = (
        places.0,
        record { place = places.0.exit_place; shown = places.0.exit_shown; upto = upto n.exit places.1; behind = behind },
        record { place = places.0.enter_place; shown = places.0.enter_shown; upto = upto n.enter places.2; behind = behind-both n t.configuration.events places.0.order behind },
      ) in
      rw waits all

  pub events-keep-noted : EventsKeepNoted M R D
  events-keep-noted t n name h =
      let events = t.configuration.events in
      let exit : Event = record { kind = Exit; name = name; point = n.exit; link = None } in
      let enter : Event = record { kind = Enter; name = name; point = n.enter; link = None } in (
        (
          h.0,
          record { place = h.1.place; shown = h.1.shown; upto = h.1.upto; behind = All-push (λ (e : Event). stands_before n.exit e.point ≡ false) events exit h.1.behind (stands-self n.exit) },
          record { place = h.2.place; shown = h.2.shown; upto = h.2.upto; behind = All-push (λ (e : Event). stands_before n.enter e.point ≡ false) events exit h.2.behind h.0.order },
        ),
        record { place = h.2.place; shown = h.2.shown; upto = h.2.upto; behind = All-push (λ (e : Event). stands_before n.enter e.point ≡ false) events enter h.2.behind (stands-self n.enter) },
      )
