-- Each call that changes a text, the events or the choices of a tokenizer keeps what holds of its fields.
use Rattle.markdown_tokenizer.proofs.Prelude.{AllByRecursion, AreAtPlaces, ◌≡◌, ℕ, zero, suc, ◌≤◌, inl, inr, ◌<◌, List, [], ◌∷◌, ◌++◌, Bool, true, false, cond, Option, Some, None, length, refl, sym, ap, ◌∙◌, subst, arith, take, map, option_map, reverse, unwrap_or, Point, Event, Link, ParseOptions, Seat, point, shown, stands_before, is_upto, denotes_same, IsPointOf, point_at, Waits, Nothing, Byte, End, Reading, Inside, Given, Text, Piece, pushed, passed, IsDocument, IsText, CanFollow, FitsAfter, followed_by, followed_by_all, empty_text, extended, resumed, IsPlainUntil, seen, text_within, end_point, seats_between, position_from, standing, reach, can_feed, IsReadTo, ByteWaits, IsWhatWaits, IsProgress, AreNested, IsSound, IsPlace, is_after_pair, IsMade, with_ends, unlinked, linked_to, updated_at, next_set, previous_set, with_next, with_previous, length-map, stands-self, Other, take-map, filter, is_kept, filter-append, in_range, virtual, seat_before, slice_get, get-front, length-append, end_or, byte_of, false_from_ne_true, nat_tests}
use Rattle.std.proofs.lemmas.Bool.{true_from_ne_false}
use Rattle.markdown_base.specs.declared.event.Name.{Name}
use Rattle.markdown_tokenizer.proofs.Positions.Standing.{shown-shown, place-of-point}
use Rattle.markdown_tokenizer.proofs.Positions.Order.{after-before}
use Rattle.markdown_tokenizer.proofs.Positions.Gaps.{same-not_before, other-before, skips-earlier, pushed-kept, pushed-skips, added-text, added-read, added-outside, added-resumed, added-skips, added-shown}
use Rattle.markdown_tokenizer.proofs.Positions.Cursors.{upto-order, upto-upto, end-upto, same-self, same-upto, same-back, range-continued, range-empty}
use Rattle.markdown_tokenizer.proofs.Positions.Points.{point_at-point, point_at-is}
use Rattle.markdown_tokenizer.proofs.Inside.AtPlaces.{at-places-unlinked}
use Rattle.markdown_tokenizer.proofs.Inside.Made.{made-new, made-bound, made-linked}
use Rattle.markdown_tokenizer.proofs.Inside.Fields.{Saves, MadeUpto, wide_of, text_between, next-more, within, here-all, kept-same, made-more, nested-map, bytes_within, tab_within, end_within, position_within, size_within, ReadWithin, WaitsWithin, ByteWithin, IsSeatWithin}
use Rattle.markdown_tokenizer.proofs.Inside.Known.{known-other, plain-none}
use Rattle.markdown_tokenizer.proofs.Inside.Spans.{same-choices}
use Rattle.markdown_tokenizer.proofs.Inside.Steps.{looks_in, end-place-in}

-- pieces that can follow one after another
follow-more : (g : Given) (text : Text) (pieces : List Piece) (piece : Piece) → CanFollow g text pieces → FitsAfter g (followed_by_all g text pieces) piece
    → CanFollow g text (pieces ++ piece ∷ []) × (followed_by_all g text (pieces ++ piece ∷ []) ≡ followed_by g (followed_by_all g text pieces) piece)
follow-more g text [] piece h k = ((k, tt), refl)
follow-more g text (p ∷ pieces) piece h k = let more = follow-more g (followed_by g text p) pieces piece h.1 k in ((h.0, more.0), more.1)

-- a text with a piece put at its end is a text
pub text-more : (g : Given) (text : Text) (piece : Piece) → IsText g text → FitsAfter g text piece → IsText g (followed_by g text piece)
text-more g text piece h fits =
    let same : (followed_by g text piece).start ≡ text.start = elim piece as (λ (p : Piece). (followed_by g text p).start ≡ text.start) [
      | pushed from to ↦ refl
      | passed p ↦ elim (denotes_same g.tab g.bytes p text.end) as (λ b. (cond b text (record { start = text.start; seats = text.seats; end = p })).start ≡ text.start) [ true ↦ refl | false ↦ refl ]
    ] in
    let more = follow-more g (empty_text text.start) h.pieces piece h.follow (subst (λ (w : Text). FitsAfter g w piece) h.is fits) in
    record {
      document = h.document;
      starts = subst (IsPointOf g.tab g.bytes) (sym same) h.starts;
      pieces = h.pieces ++ piece ∷ [];
      follow = subst (λ (p : Point). CanFollow g (empty_text p) (h.pieces ++ piece ∷ [])) (sym same) more.0;
      is = ap (λ (w : Text). followed_by g w piece) h.is ∙ sym more.1 ∙ ap (λ (p : Point). followed_by_all g (empty_text p) (h.pieces ++ piece ∷ [])) (sym same);
    }

-- a tokenizer that has read nothing
module _ (tab : ℕ) (wide : 0 < tab) (bytes : List ℕ) (p : Point) (h : IsPointOf tab bytes p) where
  pub start-end : end_point tab bytes (p.index, p.vs) ≡ p
  start-end = ap (λ (o : Option Point). unwrap_or o (point 1 1 0 0)) (point_at-point tab bytes wide p h)

  pub start-empty : seats_between tab bytes [] p p ≡ []
  start-empty = ap (filter (is_kept [])) (range-empty tab bytes p)

  pub start-found : point_at tab bytes (p.index, p.vs) ≡ Some p
  start-found = point_at-point tab bytes wide p h

  pub start-text : (options : ParseOptions) → IsDocument (record { bytes = bytes; options = options; tab = tab }) → IsText (record { bytes = bytes; options = options; tab = tab }) (empty_text p)
  start-text options document = record { document = document; starts = h; pieces = []; follow = tt; is = refl }

  pub start-made : IsMade bytes [] [] (shown bytes p) (shown bytes p)
  start-made = made-new bytes (shown bytes p) (shown bytes p) (stands-self (shown bytes p)) (shown-shown tab bytes p) (shown-shown tab bytes p)

can-feed-more : (position m n : ℕ) (closed : Bool) → m ≤ n → can_feed position m closed ≡ true → can_feed position n closed ≡ true
can-feed-more position m n closed le h = grind (arith, nat_tests)

module _ {M R D : Type 0} {same : R → R → Bool} (t : Inside M R D) (sound : IsSound same t) where
  starts-upto : is_upto (tab_within t) (bytes_within t) t.start (end_within t) ≡ true
  starts-upto = upto-upto (tab_within t) (bytes_within t) t.start t.after_previous (end_within t) sound.placed.read.from sound.placed.read.upto

  -- what waits in another text
  waiting-on : (w : Waits) (skips : List Point) (text : Text) → (ByteWithin t → ByteWaits (tab_within t) (bytes_within t) skips t.after_previous text.end t.byte)
      → (t.closed ≡ true → size_within t ≤ position_within t t.after_previous → length text.seats ≤ position_from (tab_within t) (bytes_within t) skips text.start t.after_previous)
      → WaitsWithin t w → IsWhatWaits (tab_within t) (bytes_within t) skips text t.after_previous t.byte t.closed w
  waiting-on Nothing skips text byte end h = h
  waiting-on Byte skips text byte end h = byte h
  waiting-on End skips text byte end h = record { closed_too = h.closed_too; all = end h.closed_too h.all }

  -- a byte that waits is before a later end
  still-before : (to : Point) → is_upto (tab_within t) (bytes_within t) (end_within t) to ≡ true → (w : ByteWithin t) → stands_before w.seat.point to ≡ true
  still-before to later w = true_from_ne_false _ (λ e.
      let here = resumed t.skips t.after_previous in
      let back = upto-upto (tab_within t) (bytes_within t) (end_within t) to here later (end-upto (tab_within t) (bytes_within t) here w.seat (looks_in t sound).place w.at to e) in
      let all = here-all t sound sound.placed.read back in
      let more = next-more t sound sound.placed.read w.seat w.at w.before in
      omega (arith, all, more))

  -- the text ends later
  module _ (to : ℕ × ℕ) (f u : Point) (found : point_at (tab_within t) (bytes_within t) to ≡ Some u) (fits : FitsAfter (seen t).given (text_within t) (pushed f u)) (open_still : t.closed ≡ false) where
    later : is_upto (tab_within t) (bytes_within t) (end_within t) u ≡ true
    later = upto-upto (tab_within t) (bytes_within t) (end_within t) f u (same-upto (tab_within t) (bytes_within t) f (end_within t) fits.2).1 fits.3

    longer-seats : seats_between (tab_within t) (bytes_within t) t.skips t.start u ≡ (text_within t).seats ++ filter (in_range f u) (virtual (tab_within t) (bytes_within t))
    longer-seats =
        ap (filter (is_kept t.skips)) (range-continued (tab_within t) (bytes_within t) t.start (end_within t) f u (end-place-in t sound) starts-upto later (same-back (tab_within t) (bytes_within t) f (end_within t) fits.2))
        ∙ filter-append (is_kept t.skips) (filter (in_range t.start (end_within t)) (virtual (tab_within t) (bytes_within t))) (filter (in_range f u) (virtual (tab_within t) (bytes_within t)))
        ∙ ap (λ (xs : List Seat). (text_within t).seats ++ xs) (pushed-kept (tab_within t) (bytes_within t) (wide_of t sound) t.skips (end_within t) f u sound.placed.skips (end-place-in t sound) fits.2 fits.3)

    -- the byte before is the same
    before-longer : (n : ℕ) → n ≤ size_within t → seat_before (text_between (tab_within t) (bytes_within t) t.skips t.start u) n ≡ seat_before (text_within t) n
    before-longer zero h = refl
    before-longer (suc n) h = ap (λ (xs : List Seat). slice_get xs n) longer-seats ∙ get-front (text_within t).seats (filter (in_range f u) (virtual (tab_within t) (bytes_within t))) n (omega (arith, h))

    longer : {after_previous : Point} {previous : Option ℕ} → ReadWithin t after_previous previous → IsReadTo (tab_within t) (bytes_within t) t.skips (text_between (tab_within t) (bytes_within t) t.skips t.start u) after_previous previous
    longer {after_previous} read =
        let e = before-longer (position_within t after_previous) (within t sound read) in
        assumption (upto-upto (tab_within t) (bytes_within t) after_previous (end_within t) u read.upto later, read.back ∙ ap (end_or t.start) (sym e), read.previous_is ∙ ap byte_of (sym e))

    text-longer : followed_by (seen t).given (text_within t) (pushed f u) ≡ text_between (tab_within t) (bytes_within t) t.skips t.start u
    text-longer = ap (λ (seats : List Seat). record { start = t.start; seats = seats; end = u }) (sym longer-seats)

    pub extended-sound : (plain_until : ℕ) → IsPlainUntil t.skips t.after_previous to.0 plain_until → IsSound same (record t { end = to; plain_until = plain_until })
    extended-sound plain_until r =
        let e : end_point (tab_within t) (bytes_within t) to ≡ u = ap (λ (o : Option Point). unwrap_or o (point 1 1 0 0)) found in
        let more : size_within t ≤ length (seats_between (tab_within t) (bytes_within t) t.skips t.start u) =
        omega (arith, ap length longer-seats, length-append (text_within t).seats (filter (in_range f u) (virtual (tab_within t) (bytes_within t)))) in
        record {
          placed = record {
            tab = sound.placed.tab;
            reads = sound.placed.reads;
            end_at = rw e found;
            text = rw e (subst (IsText (seen t).given) text-longer (text-more (seen t).given (text_within t) (pushed f u) sound.placed.text fits));
            skips = rw e (pushed-skips (tab_within t) (bytes_within t) (wide_of t sound) t.skips (end_within t) f u sound.placed.skips (end-place-in t sound) fits.2 fits.3);
            read = rw e (longer sound.placed.read);
            waiting = rw e (waiting-on t.waits t.skips (text_between (tab_within t) (bytes_within t) t.skips t.start u) (λ w. record { seat = w.seat; at = w.at; before = still-before u later w; is = w.is })
                (λ c all. absurd (let no : true ≡ false = sym c ∙ open_still in cc)) sound.placed.waiting);
            ended = sound.placed.ended;
          };
          made = sound.made;
          at_places = sound.at_places;
          kept_choices = rw e (nested-map (Saves t) (IsProgress t.phase (tab_within t) (bytes_within t) t.skips (text_between (tab_within t) (bytes_within t) t.skips t.start u) t.events.items t.stack.items t.closed)
              (length t.events.items) (length t.stack.items) (reverse t.kept_choices.items) (λ p a b h. let position = position_within t p.after_previous in record {
                read = longer h.read;
                ended = h.ended;
                made = λ reads. made-more t sound h.read (take p.events_len t.events.items) (take p.stack_len t.stack.items)
                    (can_feed position (size_within t) t.closed) (can_feed position (length (seats_between (tab_within t) (bytes_within t) t.skips t.start u)) t.closed) (can-feed-more position (size_within t) _ t.closed more) (h.made reads);
              }) sound.kept_choices);
          once = sound.once;
          known = record { own_bytes = sound.known.own_bytes; is_plain_until = r; there = sound.known.there; over = sound.known.over };
        }

    pub extended-seen : seen (record t { end = to }) ≡ extended (seen t) (followed_by (seen t).given (seen t).text (pushed f u))
    extended-seen = let e : end_point (tab_within t) (bytes_within t) to ≡ u = ap (λ (o : Option Point). unwrap_or o (point 1 1 0 0)) found in rw (e, text-longer) refl

  -- a gap is passed, or none is there
  module _ (q : Point) (fits : FitsAfter (seen t).given (text_within t) (passed q)) where
    passed-place : IsPlace (tab_within t) (bytes_within t) q
    passed-place = place-of-point (tab_within t) (bytes_within t) (wide_of t sound) q fits.0

    -- what the test of the code means
    after-end : is_after_pair (shown (bytes_within t) q) t.end ≡ stands_before (end_within t) (shown (bytes_within t) q)
    after-end = let at = point_at-is (tab_within t) (bytes_within t) t.end (end_within t) sound.placed.end_at in let i = at.index in let v = at.vs in rw (i, v) refl

    -- a gap there is
    pub record IsPassed : Type 0 where
      pub other : denotes_same (tab_within t) (bytes_within t) q (end_within t) ≡ false
      pub first : (end_within t).column ≡ 1
      pub line : q.line ≡ (end_within t).line
      pub before : stands_before (end_within t) q ≡ true

    pub passes : is_after_pair (shown (bytes_within t) q) t.end ≡ true → IsPassed
    passes e =
        let other = false_from_ne_true (denotes_same (tab_within t) (bytes_within t) q (end_within t))
        (λ same. let g : true ≡ false = sym e ∙ after-end ∙ same-not_before (tab_within t) (bytes_within t) (wide_of t sound) q (end_within t) passed-place (end-place-in t sound) same in cc) in
        elim fits.1 [
          | inl same ↦ (let g : true ≡ false = sym same ∙ other in absurd cc)
          | inr f ↦ record { other = other; first = f.0; line = f.1; before = f.2 }
        ]

    pub passed-nothing : is_after_pair (shown (bytes_within t) q) t.end ≡ false → seen t ≡ extended (seen t) (followed_by (seen t).given (seen t).text (passed q))
    passed-nothing e =
        let same : denotes_same (tab_within t) (bytes_within t) q (end_within t) ≡ true = elim fits.1 [
          | inl same ↦ same
          | inr f ↦ true_from_ne_false _ (λ other. let g : true ≡ false = sym (other-before (tab_within t) (bytes_within t) (wide_of t sound) q (end_within t) passed-place (end-place-in t sound) f.2 other) ∙ sym after-end ∙ e in cc)
        ] in
        rw same refl

    module _ (is : IsPassed) where
      abbrev added : List Point
      added = t.skips ++ q ∷ []

      abbrev text_added : Text
      text_added = text_between (tab_within t) (bytes_within t) added t.start q

      seats-same : text_added.seats ≡ (text_within t).seats
      seats-same = added-text (tab_within t) (bytes_within t) (wide_of t sound) t.skips t.start (end_within t) q sound.placed.skips (end-place-in t sound) passed-place is.first is.line is.before is.other starts-upto

      position-same : {after_previous : Point} {previous : Option ℕ} → ReadWithin t after_previous previous → position_from (tab_within t) (bytes_within t) added t.start after_previous ≡ position_within t after_previous
      position-same {after_previous} read =
          ap length (added-read (tab_within t) (bytes_within t) (wide_of t sound) t.skips t.start (end_within t) q sound.placed.skips (end-place-in t sound) passed-place is.first is.line is.before is.other after_previous read.upto)

      -- the byte before is the same
      before-passed : (n : ℕ) → seat_before text_added n ≡ seat_before (text_within t) n
      before-passed zero = refl
      before-passed (suc n) = ap (λ (xs : List Seat). slice_get xs n) seats-same

      passed-later : is_upto (tab_within t) (bytes_within t) (end_within t) q ≡ true
      passed-later = upto-order (tab_within t) (bytes_within t) (end_within t) q (after-before (end_within t).index (end_within t).vs q.index q.vs is.before)

      pub text-passed : followed_by (seen t).given (text_within t) (passed q) ≡ text_added
      text-passed = rw is.other (ap (λ (xs : List Seat). record { start = t.start; seats = xs; end = q }) (sym seats-same))

      -- the gaps so far are in earlier lines
      pub passed-behind : AllByRecursion (λ (p : Point). p.line < q.line) t.skips
      passed-behind = let l = is.line in subst (λ (k : ℕ). AllByRecursion (λ (p : Point). p.line < k) t.skips) (sym l) (skips-earlier (tab_within t) (bytes_within t) (wide_of t sound) (end_within t) (end-place-in t sound) is.first t.skips sound.placed.skips)

      read-on : {after_previous : Point} {previous : Option ℕ} → ReadWithin t after_previous previous → IsReadTo (tab_within t) (bytes_within t) added text_added after_previous previous
      read-on {after_previous} read =
          let e = ap (seat_before text_added) (position-same read) ∙ before-passed (position_within t after_previous) in
          let outside = added-outside (tab_within t) (bytes_within t) (wide_of t sound) t.skips t.start (end_within t) q sound.placed.skips (end-place-in t sound) passed-place
          is.first is.line is.before is.other after_previous read.place read.upto read.outside in
          assumption (upto-upto (tab_within t) (bytes_within t) after_previous (end_within t) q read.upto passed-later, outside, read.back ∙ ap (end_or t.start) (sym e), read.previous_is ∙ ap byte_of (sym e))

      module _ (events : List Event) (stack : List Name) {after_previous : Point} {previous : Option ℕ} (read : ReadWithin t after_previous previous) where
        resumed-on : MadeUpto t events stack after_previous (resumed t.skips after_previous) → MadeUpto t events stack after_previous (resumed added after_previous)
        resumed-on m = made-bound (bytes_within t) events stack (shown (bytes_within t) after_previous) (shown (bytes_within t) (resumed t.skips after_previous)) m (shown (bytes_within t) (resumed added after_previous))
            (added-shown (tab_within t) (bytes_within t) (wide_of t sound) t.skips t.start (end_within t) q sound.placed.skips (end-place-in t sound) passed-place is.first is.line is.before is.other
            after_previous read.place read.upto) (shown-shown (tab_within t) (bytes_within t) (resumed added after_previous))

        standing-on : (w : Waits) → MadeUpto t events stack after_previous (standing t.skips after_previous w) → MadeUpto t events stack after_previous (standing added after_previous w)
        standing-on Nothing m = m
        standing-on _ m = resumed-on m

        reach-on : (more : Bool) → MadeUpto t events stack after_previous (reach t.skips after_previous more) → MadeUpto t events stack after_previous (reach added after_previous more)
        reach-on true m = resumed-on m
        reach-on false m = m

      module _ (list : List Point) (put : list ≡ added) where
        pub added-sound : IsSound same (record t { skips = list; end = (q.index, q.vs); plain_until = 0; moves = Other })
        added-sound =
            let e = start-end (tab_within t) (wide_of t sound) (bytes_within t) q fits.0 in
            let size = ap length seats-same in
            let position = position-same sound.placed.read in
            record {
              placed = record {
                tab = sound.placed.tab;
                reads = sound.placed.reads;
                end_at = rw e (point_at-point (tab_within t) (bytes_within t) (wide_of t sound) q fits.0);
                text = rw (put, e) (subst (IsText (seen t).given) text-passed (text-more (seen t).given (text_within t) (passed q) sound.placed.text fits));
                skips = rw (put, e) (added-skips (tab_within t) (bytes_within t) (wide_of t sound) t.skips t.start (end_within t) q sound.placed.skips (end-place-in t sound) passed-place is.first is.line is.before is.other);
                read = rw (put, e) (read-on sound.placed.read);
                waiting = rw (put, e) (waiting-on t.waits added text_added (λ w.
                    let more = next-more t sound sound.placed.read w.seat w.at w.before in
                    let there : resumed added t.after_previous ≡ resumed t.skips t.after_previous = elim (added-resumed (tab_within t) (bytes_within t) (wide_of t sound) t.skips t.start (end_within t) q
                    sound.placed.skips (end-place-in t sound) passed-place is.first is.line is.before is.other t.after_previous sound.placed.read.place sound.placed.read.upto) [
                      | inl e ↦ e
                      | inr e ↦ (let same = kept-same (tab_within t) (bytes_within t) t.skips t.start t.after_previous t.start (end_within t) (same-self (tab_within t) (bytes_within t) t.start) e.0 in absurd (omega (arith, more, ap length same)))
                    ] in
                    record {
                      seat = w.seat;
                      at = subst (λ (p : Point). IsSeatWithin t p w.seat) (sym there) w.at;
                      before = still-before q passed-later w;
                      is = w.is;
                    }) (λ c all. omega (arith, all, size, position)) sound.placed.waiting);
                ended = sound.placed.ended;
              };
              made = λ reads. rw put (standing-on t.events.items t.stack.items sound.placed.read t.waits (sound.made reads));
              at_places = sound.at_places;
              kept_choices = rw (put, e) (nested-map (Saves t) (IsProgress t.phase (tab_within t) (bytes_within t) added text_added t.events.items t.stack.items t.closed)
                  (length t.events.items) (length t.stack.items) (reverse t.kept_choices.items) (λ p a b h. record {
                    read = read-on h.read;
                    ended = h.ended;
                    made = λ reads. rw (position-same h.read, size) (reach-on (take p.events_len t.events.items) (take p.stack_len t.stack.items) h.read
                        (can_feed (position_within t p.after_previous) (size_within t) t.closed) (h.made reads));
                  }) sound.kept_choices);
              once = sound.once;
              known = known-other list t.after_previous q.index t.bytes.now (tab_within t) (bytes_within t) sound.known.own_bytes 0 (plain-none list t.after_previous q.index) t.waits;
            }

        pub added-seen : seen (record t { skips = list; end = (q.index, q.vs) }) ≡ extended (seen t) (followed_by (seen t).given (seen t).text (passed q))
        added-seen =
            let e = start-end (tab_within t) (wide_of t sound) (bytes_within t) q fits.0 in
            let text : text_between (tab_within t) (bytes_within t) added t.start (end_point (tab_within t) (bytes_within t) (q.index, q.vs)) ≡ followed_by (seen t).given (text_within t) (passed q) = rw e (sym text-passed) in
            let choices = same-choices (position_from (tab_within t) (bytes_within t) added t.start) (position_within t) t.stack.items t.stack.items (Saves t)
            (length t.events.items) (length t.stack.items) (reverse t.kept_choices.items) (λ p le saved. rw (position-same saved.read) refl) sound.kept_choices in
            rw (put, text, position-same sound.placed.read, choices) refl

abbrev pub ExtendedAt : {M R D : Type 0} → Inside M R D → (ℕ × ℕ) → Point → Point → Type 0
ExtendedAt t to f u = seen (record t { end = to }) ≡ extended (seen t) (followed_by (seen t).given (seen t).text (pushed f u))

-- links are no part of what was made
updated-unlinked : (i : ℕ) (f : Event → Event) → ((e : Event) → unlinked (f e) ≡ unlinked e) → (events : List Event) → map unlinked (updated_at i f events) ≡ map unlinked events
updated-unlinked i f same [] = refl
updated-unlinked zero f same (e ∷ es) = ap (λ (x : Event). x ∷ map unlinked es) (same e)
updated-unlinked (suc i) f same (e ∷ es) = ap (λ (xs : List Event). unlinked e ∷ xs) (updated-unlinked i f same es)

-- what is set in a link's ends is taken away with them
no-ends : (l : Link) → with_ends (λ k. None) l ≡ record l { previous = None; next = None }
no-ends l = grind arith

ends-dropped : (f : Link → Link) → ((l : Link) → (f l).content ≡ l.content) → (e : Event) (o : Option Link) → e.link ≡ o
    → unlinked (record e { link = option_map f e.link }) ≡ unlinked e
ends-dropped f same e None is = rw is refl
ends-dropped f same e (Some l) is = rw (is, no-ends (f l), no-ends l, same l) refl

pub linked-unlinked : (previous next : ℕ) (events : List Event) → map unlinked (linked_to previous next events) ≡ map unlinked events
linked-unlinked previous next events =
    updated-unlinked next (with_previous previous) (λ e. ends-dropped (previous_set previous) (λ l. refl) e e.link refl) (updated_at previous (with_next next) events)
    ∙ updated-unlinked previous (with_next next) (λ e. ends-dropped (next_set next) (λ l. refl) e e.link refl) events

module _ {M R D : Type 0} {same : R → R → Bool} (t : Inside M R D) (sound : IsSound same t) (previous next : ℕ) (events : List Event) (is : events ≡ linked_to previous next t.events.items) where
  events-unlinked : map unlinked events ≡ map unlinked t.events.items
  events-unlinked = ap (map unlinked) is ∙ linked-unlinked previous next t.events.items

  pub linked-made : t.phase ≡ Reading → IsMade (bytes_within t) events t.stack.items (shown (bytes_within t) t.after_previous) (shown (bytes_within t) (standing t.skips t.after_previous t.waits))
  linked-made reads = made-linked t.events.items events (sym events-unlinked) (bytes_within t) t.stack.items (shown (bytes_within t) t.after_previous)
      (shown (bytes_within t) (standing t.skips t.after_previous t.waits)) (sound.made reads)

  pub linked-at-places : t.phase ≡ Reading → AreAtPlaces (tab_within t) (bytes_within t) events
  linked-at-places reads = at-places-unlinked (tab_within t) (bytes_within t) t.events.items events (sym events-unlinked) (sound.at_places reads)

  pub linked-kept_choices : AreNested (IsProgress t.phase (tab_within t) (bytes_within t) t.skips (text_within t) events t.stack.items t.closed) (length events) (length t.stack.items) (reverse t.kept_choices.items)
  linked-kept_choices =
      let bytes = bytes_within t in
      let same_length = sym (length-map events unlinked) ∙ ap length events-unlinked ∙ length-map t.events.items unlinked in
      rw same_length (nested-map (Saves t) (IsProgress t.phase (tab_within t) bytes t.skips (text_within t) events t.stack.items t.closed)
      (length t.events.items) (length t.stack.items) (reverse t.kept_choices.items) (λ p a b h. record {
        read = h.read;
        ended = h.ended;
        made = λ reads. made-linked (take p.events_len t.events.items) (take p.events_len events)
            (sym (take-map unlinked p.events_len t.events.items) ∙ ap (take p.events_len) (sym events-unlinked) ∙ take-map unlinked p.events_len events)
            bytes (take p.stack_len t.stack.items) (shown bytes p.after_previous) _ (h.made reads);
      }) sound.kept_choices)
