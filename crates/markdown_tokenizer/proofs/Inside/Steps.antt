-- Each call on a tokenizer keeps what holds of its fields, and does what its contract says.
use Rattle.markdown_tokenizer.proofs.Prelude.{Bool, ◌≡◌, ◌≢◌, ℕ, ◌≤◌, ◌<◌, List, [], true, false, Option, Some, None, length, refl, sym, ap, ◌∙◌, subst, add-one, arith, inl, inr, OnTrue, is_some, lt-ltb, Point, Seat, shown, stands_before, IsPointOf, IsShown, stands-self, Waits, Nothing, Byte, End, Moves, Other, Reading, Inside, at_configuration, sight, byte_of, point_of, current_of, point_or, consumed, fed, IsWellFormed, IsInText, resumed, IsPlainUntil, seen, text_within, standing, EndWaits, NextByteIsKnown, IsSound, IsPlace, rest_at, is_before_pair, IsNextByte, CanMove, moved, IsQuick, IsMade, Exit, reverse, is_void, balanced_from_open}
use Rattle.markdown_base.specs.declared.event.Name.{Name}
use Rattle.markdown_tokenizer.proofs.Positions.Order.{later-later}
use Rattle.markdown_tokenizer.proofs.Positions.Seats.{one-seat}
use Rattle.markdown_tokenizer.proofs.Positions.TextOrder.{read-shown}
use Rattle.markdown_tokenizer.proofs.Positions.Standing.{next-begins, place-of-point, shown-shown, shown-upto, seat-shown, seat-passes}
use Rattle.markdown_tokenizer.proofs.Positions.Gaps.{IsResumed}
use Rattle.markdown_tokenizer.proofs.Positions.Points.{point_at-is, shown-line, shown-column, same-numbers}
use Rattle.markdown_tokenizer.proofs.Inside.AtPlaces.{shown-is-point}
use Rattle.markdown_tokenizer.proofs.Inside.Made.{made-consume, balanced-followed, followed-at}
use Rattle.markdown_tokenizer.proofs.Inside.Known.{resumed-in-line, place-fits, not-before-index}
use Rattle.markdown_tokenizer.proofs.Inside.Fields.{wide_of, placed-there, looks, within, next-seat, next-more, next-past, next-number, read-next, next-none-left, end-shown, made-later, bytes_within, tab_within, end_within, position_within, size_within, ReadWithin, WaitsWithin, ByteWithin, IsSeatWithin}

module _ {M R D : Type 0} {same : R → R → Bool} (t : Inside M R D) (sound : IsSound same t) where
  abbrev here_in : Point
  here_in = resumed t.skips t.after_previous

  abbrev position_in : ℕ
  position_in = position_within t t.after_previous

  -- the place from which the next byte is looked for
  pub looks_in : IsResumed (tab_within t) (bytes_within t) t.skips t.start (end_within t) t.after_previous here_in
  looks_in = looks t sound sound.placed.read

  pub end-place-in : IsPlace (tab_within t) (bytes_within t) (end_within t)
  end-place-in = place-of-point (tab_within t) (bytes_within t) (wide_of t sound) (end_within t) (point_at-is (tab_within t) (bytes_within t) t.end (end_within t) sound.placed.end_at).is_point

  pub byte-waits : t.waits ≡ Byte → ByteWithin t
  byte-waits e = subst (WaitsWithin t) e sound.placed.waiting

  end-waits : t.waits ≡ End → EndWaits t.closed position_in (size_within t)
  end-waits e = subst (WaitsWithin t) e sound.placed.waiting

  -- the byte that waits, if one does
  abbrev byte_if : Waits → Option ℕ
  byte_if Byte = Some t.byte
  byte_if _ = None

  pub current-is : (w : Waits) → t.waits ≡ w → byte_if w ≡ (sight (seen t).given (seen t).text (seen t).configuration).current
  current-is w e = ap byte_if (sym e) ∙ (elim t.waits as (λ (w : Waits). WaitsWithin t w → byte_if w ≡ current_of (text_within t) position_in w) [
    | Byte ↦ λ h. ap Some h.is ∙ ap byte_of (sym (next-seat t sound sound.placed.read h.seat h.at h.before))
    | _ ↦ λ h. refl
  ] sound.placed.waiting)

  -- the place of an enter
  pub here-is : shown (bytes_within t) (standing t.skips t.after_previous t.waits) ≡ (sight (seen t).given (seen t).text (seen t).configuration).enter_place
  here-is = elim t.waits as (λ (w : Waits). WaitsWithin t w → shown (bytes_within t) (standing t.skips t.after_previous w) ≡ shown (bytes_within t) (point_of (text_within t) position_in w)) [
    | Nothing ↦ λ h. ap (shown (bytes_within t)) sound.placed.read.back
    | Byte ↦ λ h. looks_in.place.stands ∙ sym (next-begins (tab_within t) (bytes_within t) (wide_of t sound) here_in h.seat looks_in.place h.at).shown_is
        ∙ ap (λ (o : Option Seat). shown (bytes_within t) (point_or (end_within t) o)) (sym (next-seat t sound sound.placed.read h.seat h.at h.before))
    | End ↦ λ h. sym (end-shown t sound sound.placed.read h.all end-place-in)
  ] sound.placed.waiting

  pub after_previous-is : shown (bytes_within t) t.after_previous ≡ (sight (seen t).given (seen t).text (seen t).configuration).exit_place
  after_previous-is = ap (shown (bytes_within t)) sound.placed.read.back

  -- the place of an enter, and of an exit, is a place of the document
  pub enter-is-point : IsPointOf (tab_within t) (bytes_within t) (shown (bytes_within t) (standing t.skips t.after_previous t.waits))
  enter-is-point = shown-is-point (tab_within t) (bytes_within t) (wide_of t sound) (standing t.skips t.after_previous t.waits)
      (elim t.waits as (λ (w : Waits). IsPlace (tab_within t) (bytes_within t) (standing t.skips t.after_previous w)) [ Nothing ↦ sound.placed.read.place | Byte ↦ looks_in.place | End ↦ looks_in.place ])

  pub exit-is-point : IsPointOf (tab_within t) (bytes_within t) (shown (bytes_within t) t.after_previous)
  exit-is-point = shown-is-point (tab_within t) (bytes_within t) (wide_of t sound) t.after_previous sound.placed.read.place

  -- a place after a byte is shown at itself
  pub after-byte : (read : Bool) → read ≡ is_some t.previous → OnTrue read (shown (bytes_within t) t.after_previous ≡ t.after_previous)
  after-byte read e = rw e (elim t.previous as (λ (o : Option ℕ). (t.previous ≡ o) → OnTrue (is_some o) (shown (bytes_within t) t.after_previous ≡ t.after_previous)) [
    | None ↦ λ h. tt
    | Some byte ↦ λ h. subst (IsShown (bytes_within t)) (sym sound.placed.read.back) (read-shown (seen t).given (text_within t) sound.placed.text position_in byte (sym sound.placed.read.previous_is ∙ h))
  ] refl)

  pub in-text : IsInText (seen t)
  in-text = record {
    text = sound.placed.text;
    within = within t sound sound.placed.read;
    byte = λ e. let w = byte-waits e in next-more t sound sound.placed.read w.seat w.at w.before;
    end = λ e. (end-waits e).closed_too;
    ended = sound.placed.ended;
    reads = sound.placed.reads;
    at_places = sound.at_places;
  }

  pub well-formed : t.phase ≡ Reading → t.stack.items ≡ [] → IsWellFormed (seen t).given (seen t).configuration.events
  well-formed reads e =
      let m = sound.made reads in
      let balanced = balanced_from_open t.events.items (m.nested ∙ ap (λ (stack : List Name). Some (reverse stack)) e) in
      record { balanced = balanced; void_tight = followed-at is_void t.events.items (balanced-followed is_void balanced Exit m.tight); at_places = sound.at_places reads; in_order = m.in_order }

  -- the test of the code
  pub before-end : (q : Point) → stands_before q (end_within t) ≡ is_before_pair q t.end
  before-end q = let at = point_at-is (tab_within t) (bytes_within t) t.end (end_within t) sound.placed.end_at in let i = at.index in let v = at.vs in rw (i, v) refl

  -- an enter may be after the gap
  abbrev MadeHere : Type 0
  MadeHere = IsMade (bytes_within t) t.events.items t.stack.items (shown (bytes_within t) t.after_previous) (shown (bytes_within t) here_in)

  made-here : t.phase ≡ Reading → MadeHere
  made-here reads = elim t.waits as (λ (w : Waits). IsMade (bytes_within t) t.events.items t.stack.items (shown (bytes_within t) t.after_previous) (shown (bytes_within t) (standing t.skips t.after_previous w)) → MadeHere) [
    | Nothing ↦ λ m. made-later t sound sound.placed.read t.events.items t.stack.items m
    | _ ↦ λ m. m
  ] (sound.made reads)

  -- the next byte is fed
  module _ (seat : Seat) (n : IsSeatWithin t here_in seat) where
    pub fed-more : is_before_pair seat.point t.end ≡ true → (seen t).configuration.position < length (seen t).text.seats
    fed-more lt = next-more t sound sound.placed.read seat n (before-end seat.point ∙ lt)

    pub fed-seen : (byte : ℕ) → is_before_pair seat.point t.end ≡ true
        → seen (record t { waits = Byte; byte = byte }) ≡ at_configuration (seen t) (fed (seen t).text (seen t).configuration)
    fed-seen byte lt = let f = lt-ltb (seen t).configuration.position (length (seen t).text.seats) (fed-more lt) in rw f refl

    pub fed-sound : (byte : ℕ) → is_before_pair seat.point t.end ≡ true → seat.byte ≡ byte → (moves : Moves) → NextByteIsKnown t.bytes.now (tab_within t) (bytes_within t) t.skips t.after_previous t.end.0 t.plain_until Byte moves
        → IsSound same (record t { waits = Byte; byte = byte; moves = moves })
    fed-sound byte lt e moves known = record {
      placed = placed-there sound.placed sound.placed.read (record { seat = seat; at = n; before = before-end seat.point ∙ lt; is = sym e }) sound.placed.ended sound.placed.reads;
      made = made-here;
      at_places = sound.at_places;
      kept_choices = sound.kept_choices;
      once = sound.once;
      known = known;
    }

  -- no byte is left
  pub fed-none : IsNextByte (tab_within t) (bytes_within t) here_in t.end None → length (seen t).text.seats ≤ (seen t).configuration.position
  fed-none (inl e) = next-none-left t sound sound.placed.read e
  fed-none (inr n) = next-past t sound sound.placed.read n.0 n.1 (before-end n.0.point ∙ n.2)

  -- the end is fed
  pub end-fed-sound : length (seen t).text.seats ≤ (seen t).configuration.position → t.closed ≡ true → IsSound same (record t { waits = End; ended = true })
  end-fed-sound all closed = record {
    placed = placed-there sound.placed sound.placed.read (record { closed_too = closed; all = all }) (λ _. closed) sound.placed.reads;
    made = made-here;
    at_places = sound.at_places;
    kept_choices = sound.kept_choices;
    once = sound.once;
    known = record { own_bytes = sound.known.own_bytes; is_plain_until = sound.known.is_plain_until; there = λ w o. cc; over = λ w o. cc };
  }

  -- a byte is fed that is told by the one at its index
  module _ (byte : ℕ) (moves : Moves) (q : IsQuick t.tab_size t.bytes.now t.after_previous t.plain_until t.end.0 byte moves) where
    quick-in : IsQuick (tab_within t) (bytes_within t) t.after_previous t.plain_until t.end.0 byte moves
    quick-in = subst (λ (n : ℕ). IsQuick n (bytes_within t) t.after_previous t.plain_until t.end.0 byte moves) sound.placed.tab
        (subst (λ (b : List ℕ). IsQuick t.tab_size b t.after_previous t.plain_until t.end.0 byte moves) sound.known.own_bytes q)

    quick-is-there : here_in ≡ t.after_previous
    quick-is-there = elim quick-in.there [ inl h ↦ sound.known.is_plain_until.there h | inr h ↦ resumed-in-line t.skips t.after_previous h ]

    quick-at : IsSeatWithin t here_in quick-in.seat
    quick-at = subst (λ (p : Point). IsSeatWithin t p quick-in.seat) (sym quick-is-there) quick-in.at

    quick-before : is_before_pair quick-in.seat.point t.end ≡ true
    quick-before = let e = quick-in.here in let f = lt-ltb t.after_previous.index t.end.0 quick-in.before in rw (e, f) refl

    pub quick-more : (seen t).configuration.position < length (seen t).text.seats
    quick-more = fed-more quick-in.seat quick-at quick-before

    pub quick-seen : seen (record t { waits = Byte; byte = byte }) ≡ at_configuration (seen t) (fed (seen t).text (seen t).configuration)
    quick-seen = fed-seen quick-in.seat quick-at byte quick-before

    pub quick-sound : IsSound same (record t { waits = Byte; byte = byte; moves = moves })
    quick-sound = fed-sound quick-in.seat quick-at byte quick-before quick-in.is moves
        (record { own_bytes = sound.known.own_bytes; is_plain_until = sound.known.is_plain_until; there = λ w o. quick-is-there; over = λ w o. quick-in.over })

  -- the end is in the document
  pub end-inside : t.end.0 ≤ length (bytes_within t)
  end-inside =
      let at : (end_within t).index ≡ t.end.0 = (point_at-is (tab_within t) (bytes_within t) t.end (end_within t) sound.placed.end_at).index in
      let inside : (end_within t).index ≤ length (bytes_within t) = end-place-in.bounds.inside in
      omega (arith, at, inside)

  -- a byte waits, and it is known how the place moves over it
  module _ (waits : ByteWithin t) (is : t.waits ≡ Byte) (told : t.moves ≢ Other) where
    seat-there : IsSeatWithin t t.after_previous waits.seat
    seat-there = subst (λ (p : Point). IsSeatWithin t p waits.seat) (sound.known.there is told) waits.at

    pub told-fits : CanMove t.after_previous
    told-fits =
        let s = waits.seat.point in let p = t.after_previous in
        place-fits (tab_within t) (bytes_within t) p (wide_of t sound) t.parse_state.now.limit sound.placed.read.place (omega (arith, not-before-index s.index s.vs p.index p.vs seat-there.later, seat-there.inside))

    pub told-moved : moved t.moves t.after_previous ≡ waits.seat.end
    told-moved = sym ((sound.known.over is told).ends waits.seat seat-there)

  -- the place has not moved
  pub unmoved : (place : Point) → place ≡ t.after_previous → IsSound same (record t { after_previous = place })
  unmoved place e = subst (λ (p : Point). IsSound same (record t { after_previous = p })) (sym e) sound

  -- a byte is consumed
  pub consumed-sound : (waits : ByteWithin t) (after_previous : Point) → after_previous ≡ waits.seat.end
      → (plain_until : ℕ) → IsPlainUntil t.skips after_previous t.end.0 plain_until
      → IsSound same (record t { after_previous = after_previous; previous = Some t.byte; ended = false; waits = Nothing; moves = Other; plain_until = plain_until })
  consumed-sound waits after_previous l plain_until r =
      let read : ReadWithin t after_previous (Some t.byte) = rw (l, waits.is) (read-next t sound sound.placed.read waits.seat waits.at waits.before) in
      let q = shown (bytes_within t) here_in in
      let s = seat-shown (tab_within t) (bytes_within t) (wide_of t sound) here_in waits.seat looks_in.place waits.at in
      let later : stands_before (shown (bytes_within t) after_previous) q ≡ false = rw (l, s)
      (later-later waits.seat.end.index waits.seat.end.vs here_in.index here_in.vs q.index q.vs (seat-passes (tab_within t) (bytes_within t) (wide_of t sound) here_in waits.seat looks_in.place waits.at) (shown-upto (tab_within t) (bytes_within t) here_in)) in
      record {
        placed = placed-there sound.placed read tt (λ h. absurd cc) sound.placed.reads;
        made = λ reads. made-consume (bytes_within t) t.events.items t.stack.items (shown (bytes_within t) t.after_previous) q (made-here reads) (shown (bytes_within t) after_previous) (shown (bytes_within t) after_previous)
            later (stands-self (shown (bytes_within t) after_previous)) (shown-shown (tab_within t) (bytes_within t) after_previous) (shown-shown (tab_within t) (bytes_within t) after_previous);
        at_places = sound.at_places;
        kept_choices = sound.kept_choices;
        once = sound.once;
        known = record { own_bytes = sound.known.own_bytes; is_plain_until = r; there = λ w o. cc; over = λ w o. cc };
      }

  pub consumed-seen : (waits : ByteWithin t) (after_previous : Point) → after_previous ≡ waits.seat.end
      → seen (record t { after_previous = after_previous; previous = Some t.byte; ended = false; waits = Nothing }) ≡ at_configuration (seen t) (consumed (seen t).configuration)
  consumed-seen waits after_previous l = rw (l, next-number t sound sound.placed.read waits.seat waits.at ∙ sym (add-one position_in)) refl

  -- the code's place, from its list of gaps
  at-here : (slice : List Point) (place : Point) → slice ≡ t.skips → place ≡ resumed slice t.after_previous → place ≡ here_in
  at-here slice place e f = f ∙ ap (λ (skips : List Point). resumed skips t.after_previous) e

  pub within-at : (slice : List Point) (place : Point) → slice ≡ t.skips → place ≡ resumed slice t.after_previous → 0 < place.vs → place.index < length (bytes_within t)
  within-at slice place e f = let is = at-here slice place e f in rw is looks_in.place.bounds.tab

  pub byte-at : (slice : List Point) (place : Point) (o : Option ℕ) → slice ≡ t.skips → place ≡ resumed slice t.after_previous → IsNextByte (tab_within t) (bytes_within t) place t.end o → IsNextByte (tab_within t) (bytes_within t) here_in t.end o
  byte-at slice place o e f h = subst (λ (p : Point). IsNextByte (tab_within t) (bytes_within t) p t.end o) (at-here slice place e f) h

  pub place-at : (slice : List Point) (place : Point) → slice ≡ t.skips → place ≡ resumed slice t.after_previous → IsPlace (tab_within t) (bytes_within t) place
  place-at slice place e f = subst (IsPlace (tab_within t) (bytes_within t)) (sym (at-here slice place e f)) looks_in.place

  pub seat-at : (slice : List Point) (place : Point) (seat : Seat) → slice ≡ t.skips → place ≡ resumed slice t.after_previous → IsSeatWithin t here_in seat → IsSeatWithin t place seat
  seat-at slice place seat e f h = subst (λ (p : Point). IsSeatWithin t p seat) (sym (at-here slice place e f)) h

  pub point-byte-at : (slice : List Point) (place : Point) → slice ≡ t.skips → place ≡ resumed slice t.after_previous → t.waits ≡ Byte → (seat : Seat) → IsSeatWithin t place seat
      → seat.point ≡ (sight (seen t).given (seen t).text (seen t).configuration).point
  point-byte-at slice place e f w seat n =
      let b = byte-waits w in
      let is = ap (point_or (end_within t)) (next-seat t sound sound.placed.read b.seat b.at b.before) in
      rw w (ap (λ (s : Seat). s.point) (one-seat (tab_within t) (bytes_within t) here_in seat b.seat (subst (λ (p : Point). IsSeatWithin t p seat) (at-here slice place e f) n) b.at) ∙ sym is)

  pub byte-is-there-at : (slice : List Point) (place : Point) → slice ≡ t.skips → place ≡ resumed slice t.after_previous → t.waits ≡ Byte → rest_at (tab_within t) (bytes_within t) place ≡ [] → ⊥
  byte-is-there-at slice place e f w n = let g = sym (subst (λ (p : Point). rest_at (tab_within t) (bytes_within t) p ≡ []) (at-here slice place e f) n) ∙ (byte-waits w).at.is in absurd cc

  pub point-end-at : (slice : List Point) (place : Point) → slice ≡ t.skips → place ≡ resumed slice t.after_previous → t.waits ≡ End
      → record { line = place.line; column = place.column; index = t.end.0; vs = t.end.1 } ≡ (sight (seen t).given (seen t).text (seen t).configuration).point
  point-end-at slice place e f w =
      let found = point_at-is (tab_within t) (bytes_within t) t.end (end_within t) sound.placed.end_at in
      let s = end-shown t sound sound.placed.read (end-waits w).all end-place-in in
      rw (at-here slice place e f, w) (same-numbers here_in.line here_in.column t.end.0 t.end.1 (end_within t).line (end_within t).column (end_within t).index (end_within t).vs
      (sym (shown-line (bytes_within t) here_in) ∙ ap (λ (p : Point). p.line) (sym s) ∙ shown-line (bytes_within t) (end_within t))
      (sym (shown-column (bytes_within t) here_in) ∙ ap (λ (p : Point). p.column) (sym s) ∙ shown-column (bytes_within t) (end_within t))
      (sym found.index) (sym found.vs))
