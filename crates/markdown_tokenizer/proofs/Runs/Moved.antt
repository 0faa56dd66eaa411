-- A tokenizer is moved to another document that begins alike: what holds of its fields holds there.
use Rattle.markdown_tokenizer.proofs.Prelude.{AllByRecursion, AreAtPlaces, AreNested, ◌≡◌, ◌≤◌, ◌<◌, ◌∙◌, ℕ, List, [], ◌∷◌, ◌++◌, Bool, true, false, cond, Option, Some, inl, inr, length, refl, sym, ap, subst, take, filter, get_or, reverse, unwrap_or, byte_of, every-map, map, choice_of, Choice, TokenizerValue, IsPlaced, Waits, Nothing, Byte, End, Other, Event, Point, Seat, point, shown, stands_before, is_upto, denotes_same, IsShown, point_at, Given, Text, Piece, pushed, passed, empty_text, followed_by, followed_by_all, FitsAfter, CanFollow, IsDocument, IsText, Inside, IsSkip, is_kept, resumed, IsMade, IsPlace, given_by, given_of, seen, text_within, tab_of, end_point, end_place, seat_before, seats_between, position_from, standing, reach, can_feed, IsReadTo, IsWhatWaits, IsProgress, IsSound, ParseOptions}
use Rattle.std.proofs.lemmas.Bool.{cond_both}
use Rattle.markdown_base.specs.declared.event.Name.{Name}
use Rattle.markdown_tokenizer.specs.Alike.{AreAlikeUpTo, CanMove}
use Rattle.markdown_tokenizer.proofs.Positions.Cursors.{same-upto, upto-order, upto-self, upto-upto}
use Rattle.markdown_tokenizer.proofs.Positions.Moving.{BeginAlike, begin-alike, denotes-equal, earlier, place-alike, point-alike, point-at-alike, range-alike, seat-alike, upto-alike}
use Rattle.markdown_tokenizer.proofs.Positions.Order.{after-before, before-self, later-later}
use Rattle.markdown_tokenizer.proofs.Positions.Standing.{place-of-point, shown-shown, shown-upto}
use Rattle.markdown_tokenizer.proofs.Inside.Fields.{ReadWithin, Saves, WaitsWithin, bytes_within, end_within, looks, nested-map, position_within, size_within, tab_within, text_between, wide_of}
use Rattle.markdown_tokenizer.proofs.Inside.Known.{known-other, plain-none}
use Rattle.markdown_tokenizer.proofs.Inside.Spans.{same-choices}
use Rattle.markdown_tokenizer.proofs.Inside.Steps.{end-place-in}
use Rattle.markdown_tokenizer.proofs.Runs.Alike.{shown-alike}

-- the same document but for its bytes
abbrev pub with_bytes : Given → List ℕ → Given
with_bytes g other = record { bytes = other; options = g.options; tab = g.tab }

-- alike documents begin with the same virtual bytes
pub alike-begin : (g : Given) (other : List ℕ) (p : Point) → 0 < g.tab → IsPlace g.tab g.bytes p → AreAlikeUpTo g (with_bytes g other) p → BeginAlike g.tab g.bytes other p
alike-begin g other p d place alike = begin-alike g.tab d g.bytes other p place alike.bytes alike.whole.0 alike.whole.1 (shown-alike g (with_bytes g other) p alike)

-- pieces do not go back
pub ends-later : (g : Given) (text : Text) (pieces : List Piece) → CanFollow g text pieces → is_upto g.tab g.bytes text.end (followed_by_all g text pieces).end ≡ true
ends-later g text [] fits = upto-self g.tab g.bytes text.end
ends-later g text (pushed from to ∷ rest) fits =
    let same = same-upto g.tab g.bytes from text.end fits.0.2 in let all = (followed_by_all g (followed_by g text (pushed from to)) rest).end in
    upto-upto g.tab g.bytes text.end from all same.1 (upto-upto g.tab g.bytes from to all fits.0.3 (ends-later g (followed_by g text (pushed from to)) rest fits.1))
ends-later g text (passed q ∷ rest) fits =
    let all = (followed_by_all g (followed_by g text (passed q)) rest).end in
    let on = ends-later g (followed_by g text (passed q)) rest fits.1 in
    upto-upto g.tab g.bytes text.end (followed_by g text (passed q)).end all (cond_both (denotes_same g.tab g.bytes q text.end) text (record { start = text.start; seats = text.seats; end = q }) (λ x. is_upto g.tab g.bytes text.end x.end ≡ true)
    (λ e. upto-self g.tab g.bytes text.end)
    (λ e. elim fits.0.1 [
      | inl same ↦ absurd (let no : true ≡ false = sym same ∙ e in cc)
      | inr later ↦ upto-order g.tab g.bytes text.end q (after-before text.end.index text.end.vs q.index q.vs later.2)
    ])) on

module _ (g : Given) (other : List ℕ) (d : 0 < g.tab) (p : Point) (place : IsPlace g.tab g.bytes p) (move : CanMove g (with_bytes g other) p) where
  abbrev h : Given
  h = with_bytes g other

  abbrev begins : BeginAlike g.tab g.bytes other p
  begins = alike-begin g other p d place move.alike

  -- a place that is not after the end is not behind it
  before-end : (x : Point) → IsPlace g.tab g.bytes x → is_upto g.tab g.bytes x p ≡ true → stands_before p x ≡ false
  before-end x at upto = earlier g.tab g.bytes x p at place move.alike.whole.0 move.apart upto

  -- what a piece gives in both
  record FitsAlike (text : Text) (piece : Piece) : Type 0 where
    fits : FitsAfter h text piece
    same : followed_by h text piece ≡ followed_by g text piece

  pushed-alike : (text : Text) (from to : Point) → IsPlace g.tab g.bytes text.end → FitsAfter g text (pushed from to) → is_upto g.tab g.bytes to p ≡ true → FitsAlike text (pushed from to)
  pushed-alike text from to at fits upto =
      let same = same-upto g.tab g.bytes from text.end fits.2 in
      let from_place = place-of-point g.tab g.bytes d from fits.0 in let to_place = place-of-point g.tab g.bytes d to fits.1 in
      let from_upto = upto-upto g.tab g.bytes from to p fits.3 upto in
      let u = before-end from from_place from_upto in let v = before-end to to_place upto in
      let w = before-end text.end at (upto-upto g.tab g.bytes text.end from p same.1 from_upto) in
      record {
        fits = (
          point-alike g.tab d g.bytes other p begins from u from_place,
          point-alike g.tab d g.bytes other p begins to v to_place,
          sym (denotes-equal g.tab d g.bytes other p begins from text.end u w) ∙ fits.2,
          upto-alike g.tab d g.bytes other p begins from to u fits.3,
        );
        same = ap (λ (xs : List Seat). record { start = text.start; seats = text.seats ++ xs; end = to }) (range-alike g.tab d g.bytes other p begins from to v);
      }

  passed-alike : (text : Text) (q : Point) → IsPlace g.tab g.bytes text.end → FitsAfter g text (passed q) → is_upto g.tab g.bytes (followed_by g text (passed q)).end p ≡ true → FitsAlike text (passed q)
  passed-alike text q at fits upto =
      let q_place = place-of-point g.tab g.bytes d q fits.0 in
      let both = passed-upto in
      let u = before-end q q_place both.0 in let v = before-end text.end at both.1 in
      let same = denotes-equal g.tab d g.bytes other p begins q text.end u v in
      record {
        fits = (point-alike g.tab d g.bytes other p begins q u q_place, elim fits.1 [ inl e ↦ inl (sym same ∙ e) | inr later ↦ inr later ]);
        same = ap (λ (w : Bool). cond w text (record { start = text.start; seats = text.seats; end = q })) (sym same);
      }
    where
      by : (w : Bool) → denotes_same g.tab g.bytes q text.end ≡ w → is_upto g.tab g.bytes (cond w text (record { start = text.start; seats = text.seats; end = q })).end p ≡ true
          → (is_upto g.tab g.bytes q p ≡ true) × (is_upto g.tab g.bytes text.end p ≡ true)
      by true e k = (upto-upto g.tab g.bytes q text.end p (same-upto g.tab g.bytes q text.end e).0 k, k)
      by false e k = (
        k,
        elim fits.1 [
          | inl same ↦ absurd (let no : true ≡ false = sym same ∙ e in cc)
          | inr later ↦ upto-upto g.tab g.bytes text.end q p (upto-order g.tab g.bytes text.end q (after-before text.end.index text.end.vs q.index q.vs later.2)) k
        ],
      )

      passed-upto : (is_upto g.tab g.bytes q p ≡ true) × (is_upto g.tab g.bytes text.end p ≡ true)
      passed-upto = by (denotes_same g.tab g.bytes q text.end) refl upto

  piece-alike : (text : Text) (piece : Piece) → IsPlace g.tab g.bytes text.end → FitsAfter g text piece → is_upto g.tab g.bytes (followed_by g text piece).end p ≡ true → FitsAlike text piece
  piece-alike text (pushed from to) at fits upto = pushed-alike text from to at fits upto
  piece-alike text (passed q) at fits upto = passed-alike text q at fits upto

  piece-place : (text : Text) (piece : Piece) → IsPlace g.tab g.bytes text.end → FitsAfter g text piece → IsPlace g.tab g.bytes (followed_by g text piece).end
  piece-place text (pushed from to) at fits = place-of-point g.tab g.bytes d to fits.1
  piece-place text (passed q) at fits = cond_both (denotes_same g.tab g.bytes q text.end) text (record { start = text.start; seats = text.seats; end = q }) (λ x. IsPlace g.tab g.bytes x.end)
      (λ e. at) (λ e. place-of-point g.tab g.bytes d q fits.0)

  pieces-alike : (text : Text) (pieces : List Piece) → IsPlace g.tab g.bytes text.end → CanFollow g text pieces → is_upto g.tab g.bytes (followed_by_all g text pieces).end p ≡ true
      → CanFollow h text pieces × (followed_by_all h text pieces ≡ followed_by_all g text pieces)
  pieces-alike text [] at fits upto = (tt, refl)
  pieces-alike text (piece ∷ rest) at fits upto =
      let next = followed_by g text piece in
      let one = piece-alike text piece at fits.0 (upto-upto g.tab g.bytes next.end (followed_by_all g next rest).end p (ends-later g next rest fits.1) upto) in
      let more = pieces-alike next rest (piece-place text piece at fits.0) fits.1 upto in
      ((one.fits, subst (λ (x : Text). CanFollow h x rest) (sym one.same) more.0), ap (λ (x : Text). followed_by_all h x rest) one.same ∙ more.1)

  -- a text that ends there is a text of the other document
  pub text-alike : (text : Text) → IsText g text → text.end ≡ p → IsDocument h → IsText h text
  text-alike text is ends possible =
      let start = place-of-point g.tab g.bytes d text.start is.starts in
      let last : (followed_by_all g (empty_text text.start) is.pieces).end ≡ p = ap (λ (x : Text). x.end) (sym is.is) ∙ ends in
      let upto = subst (λ (x : Point). is_upto g.tab g.bytes x p ≡ true) (sym last) (upto-self g.tab g.bytes p) in
      let from = subst (λ (x : Point). is_upto g.tab g.bytes text.start x ≡ true) last (ends-later g (empty_text text.start) is.pieces is.follow) in
      let all = pieces-alike (empty_text text.start) is.pieces start is.follow upto in
      record {
        document = possible;
        starts = point-alike g.tab d g.bytes other p begins text.start (before-end text.start start from) start;
        pieces = is.pieces;
        follow = all.0;
        is = is.is ∙ sym all.1;
      }

  -- what was made up to a place before the end
  pub made-alike : (events : List Event) (stack : List Name) (x y : Point) → stands_before p x ≡ false → stands_before p y ≡ false
      → IsMade g.bytes events stack (shown g.bytes x) (shown g.bytes y) → IsMade other events stack (shown other x) (shown other y)
  made-alike events stack x y u v m =
      let e = begins.shows x u in let f = begins.shows y v in
      let bound = shown g.bytes y in
      let no_later : stands_before p bound ≡ false = later-later p.index p.vs y.index y.vs bound.index bound.vs v (shown-upto g.tab g.bytes y) in
      rw (← e, ← f) (record {
        names = m.names;
        nested = m.nested;
        tight = m.tight;
        in_order = (
          m.in_order.0,
          λ i k l. let q = (get_or events i k).point in
              sym (begins.shows q (later-later p.index p.vs bound.index bound.vs q.index q.vs no_later (m.behind i k l))) ∙ m.in_order.1 i k l,
        );
        behind = m.behind;
        read = m.read;
        left_bound = m.left_bound;
        left_shown = subst (IsShown other) (sym e) (shown-shown g.tab other x);
        bound_shown = subst (IsShown other) (sym f) (shown-shown g.tab other y);
      })

  -- events that were made up to there stand at places
  pub places-alike : (events : List Event) (stack : List Name) (x y : Point) → stands_before p y ≡ false
      → IsMade g.bytes events stack x (shown g.bytes y) → AreAtPlaces g.tab g.bytes events → AreAtPlaces g.tab other events
  places-alike events stack x y v m at i k l =
      let q = (get_or events i k).point in let bound = shown g.bytes y in
      let no_later : stands_before p bound ≡ false = later-later p.index p.vs y.index y.vs bound.index bound.vs v (shown-upto g.tab g.bytes y) in
      point-alike g.tab d g.bytes other p begins q (later-later p.index p.vs bound.index bound.vs q.index q.vs no_later (m.behind i k l)) (place-of-point g.tab g.bytes d q (at i k l))

-- the fields of a tokenizer in the document of another one; it is not known how the place moves over the byte that waits
abbrev pub moved_in : {M R D : Type 0} → Inside M R D → Inside M R D → Inside M R D
moved_in t u = record t { parse_state = u.parse_state; bytes = u.bytes; moves = Other; plain_until = 0 }

module _ {M R D : Type 0} {same : R → R → Bool} (t u : Inside M R D) (sound : IsSound same t) (own : u.bytes.now ≡ u.parse_state.now.bytes.now)
    (move : CanMove (seen t).given (given_of u.parse_state.now) (end_within t)) where
  abbrev other_bytes : List ℕ
  other_bytes = u.parse_state.now.bytes.now

  options-same : t.parse_state.now.options.now ≡ u.parse_state.now.options.now
  options-same = move.alike.options

  to-bytes : CanMove (seen t).given (with_bytes (seen t).given other_bytes) (end_within t)
  to-bytes = subst (λ (o : ParseOptions). CanMove (seen t).given (given_by other_bytes o) (end_within t)) (sym options-same) move

  at-end : BeginAlike (tab_within t) (bytes_within t) other_bytes (end_within t)
  at-end = alike-begin (seen t).given other_bytes (end_within t) (wide_of t sound) (end-place-in t sound) to-bytes.alike

  not-behind : (x : Point) → IsPlace (tab_within t) (bytes_within t) x → is_upto (tab_within t) (bytes_within t) x (end_within t) ≡ true → stands_before (end_within t) x ≡ false
  not-behind x at upto = before-end (seen t).given other_bytes (wide_of t sound) (end_within t) (end-place-in t sound) to-bytes x at upto

  end-not-behind : stands_before (end_within t) (end_within t) ≡ false
  end-not-behind = before-self (end_within t).index (end_within t).vs

  start-not-behind : stands_before (end_within t) t.start ≡ false
  start-not-behind = not-behind t.start (place-of-point (tab_within t) (bytes_within t) (wide_of t sound) t.start sound.placed.text.starts)
      (upto-upto (tab_within t) (bytes_within t) t.start t.after_previous (end_within t) sound.placed.read.from sound.placed.read.upto)

  -- what is between places is the same
  between-same : (x : Point) → stands_before (end_within t) x ≡ false → seats_between (tab_within t) other_bytes t.skips t.start x ≡ seats_between (tab_within t) (bytes_within t) t.skips t.start x
  between-same x upto = ap (filter (is_kept t.skips)) (range-alike (tab_within t) (wide_of t sound) (bytes_within t) other_bytes (end_within t) at-end t.start x upto)

  position-moved : (x : Point) → stands_before (end_within t) x ≡ false → position_from (tab_within t) other_bytes t.skips t.start x ≡ position_within t x
  position-moved x upto = ap length (between-same x upto)

  end-found : point_at (tab_within t) other_bytes t.end ≡ Some (end_within t)
  end-found = point-at-alike (tab_within t) (wide_of t sound) (bytes_within t) other_bytes (end_within t) at-end t.end (end_within t) end-not-behind sound.placed.end_at

  end-same : end_point (tab_within t) other_bytes t.end ≡ end_within t
  end-same = ap (λ (o : Option Point). unwrap_or o (point 1 1 0 0)) end-found

  text-same : text_between (tab_within t) other_bytes t.skips t.start (end_point (tab_within t) other_bytes t.end) ≡ text_within t
  text-same = ap (text_between (tab_within t) other_bytes t.skips t.start) end-same ∙ ap (λ (xs : List Seat). record { start = t.start; seats = xs; end = end_within t }) (between-same (end_within t) end-not-behind)

  module _ {x : Point} {previous : Option ℕ} (read : ReadWithin t x previous) where
    read-not-behind : stands_before (end_within t) x ≡ false
    read-not-behind = not-behind x read.place read.upto

    resumed-not-behind : stands_before (end_within t) (resumed t.skips x) ≡ false
    resumed-not-behind = let r = looks t sound read in not-behind (resumed t.skips x) r.place r.upto

    read-moved : IsReadTo (tab_within t) other_bytes t.skips (text_within t) x previous
    read-moved =
        let e = position-moved x read-not-behind in record {
          place = place-alike (tab_within t) (wide_of t sound) (bytes_within t) other_bytes (end_within t) at-end x read-not-behind read.place;
          from = upto-alike (tab_within t) (wide_of t sound) (bytes_within t) other_bytes (end_within t) at-end t.start x start-not-behind read.from;
          upto = upto-alike (tab_within t) (wide_of t sound) (bytes_within t) other_bytes (end_within t) at-end x (end_within t) read-not-behind read.upto;
          outside = read.outside;
          back = read.back ∙ ap (end_place (text_within t)) (sym e);
          previous_is = read.previous_is ∙ ap (λ (n : ℕ). byte_of (seat_before (text_within t) n)) (sym e);
        }

    reach-not-behind : (more : Bool) → stands_before (end_within t) (reach t.skips x more) ≡ false
    reach-not-behind true = resumed-not-behind
    reach-not-behind false = read-not-behind

  standing-not-behind : (w : Waits) → stands_before (end_within t) (standing t.skips t.after_previous w) ≡ false
  standing-not-behind Nothing = read-not-behind sound.placed.read
  standing-not-behind Byte = resumed-not-behind sound.placed.read
  standing-not-behind End = resumed-not-behind sound.placed.read

  waits-moved : (w : Waits) → WaitsWithin t w → IsWhatWaits (tab_within t) other_bytes t.skips (text_within t) t.after_previous t.byte t.closed w
  waits-moved Nothing h = h
  waits-moved Byte h =
      let r = looks t sound sound.placed.read in record {
        seat = h.seat;
        at = seat-alike (tab_within t) (wide_of t sound) (bytes_within t) other_bytes (end_within t) at-end (resumed t.skips t.after_previous) (resumed-not-behind sound.placed.read) r.place h.seat h.at h.before;
        before = h.before;
        is = h.is;
      }
  waits-moved End h = record { closed_too = h.closed_too; all = subst (λ (n : ℕ). size_within t ≤ n) (sym (position-moved t.after_previous (read-not-behind sound.placed.read))) h.all }

  skips-moved : AllByRecursion (IsSkip (tab_within t) other_bytes (end_within t)) t.skips
  skips-moved = every-map (IsSkip (tab_within t) (bytes_within t) (end_within t)) (IsSkip (tab_within t) other_bytes (end_within t)) (λ q s.
      let u = not-behind q s.place s.upto in record {
        place = place-alike (tab_within t) (wide_of t sound) (bytes_within t) other_bytes (end_within t) at-end q u s.place;
        inside = s.inside;
        upto = upto-alike (tab_within t) (wide_of t sound) (bytes_within t) other_bytes (end_within t) at-end q (end_within t) u s.upto;
      }) t.skips sound.placed.skips

  choices-moved : AreNested (IsProgress t.phase (tab_within t) other_bytes t.skips (text_within t) t.events.items t.stack.items t.closed)
      (length t.events.items) (length t.stack.items) (reverse t.kept_choices.items)
  choices-moved = nested-map (Saves t) (IsProgress t.phase (tab_within t) other_bytes t.skips (text_within t) t.events.items t.stack.items t.closed)
      (length t.events.items) (length t.stack.items) (reverse t.kept_choices.items) (λ p a b k. record {
        read = read-moved k.read;
        ended = k.ended;
        made = λ reads. rw (position-moved p.after_previous (read-not-behind k.read)) (let far = reach-not-behind k.read (can_feed (position_within t p.after_previous) (size_within t) t.closed) in
            made-alike (seen t).given other_bytes (wide_of t sound) (end_within t) (end-place-in t sound) to-bytes (take p.events_len t.events.items) (take p.stack_len t.stack.items)
            p.after_previous (reach t.skips p.after_previous (can_feed (position_within t p.after_previous) (size_within t) t.closed)) (read-not-behind k.read) far (k.made reads));
      }) sound.kept_choices

  -- the position in the other document, with its options
  abbrev PlacedBy : ParseOptions → Text → Type 0
  PlacedBy o x = IsPlaced (given_by other_bytes o) t.tab_size t.skips x t.end t.after_previous t.previous t.byte t.waits t.ended t.closed t.phase

  abbrev NestedBy : ParseOptions → Text → Type 0
  NestedBy o x = AreNested (IsProgress t.phase o.tab_size other_bytes t.skips x t.events.items t.stack.items t.closed)
      (length t.events.items) (length t.stack.items) (reverse t.kept_choices.items)

  abbrev text_by : ParseOptions → Text
  text_by o = text_between o.tab_size other_bytes t.skips t.start (end_point o.tab_size other_bytes t.end)

  -- what is said of the text in the document with these options is said of it in the other one
  by-options : (P : ParseOptions → Text → Type 0) → P t.parse_state.now.options.now (text_within t) → P u.parse_state.now.options.now (text_by u.parse_state.now.options.now)
  by-options P h = subst (λ (o : ParseOptions). P o (text_by o)) options-same (subst (P t.parse_state.now.options.now) (sym text-same) h)

  pub moved-sound : IsSound same (moved_in t u)
  moved-sound = record {
    placed = by-options PlacedBy (record {
      tab = sound.placed.tab;
      end_at = end-found;
      text = text-alike (seen t).given other_bytes (wide_of t sound) (end_within t) (end-place-in t sound) to-bytes (text_within t) sound.placed.text refl to-bytes.alike.possible;
      skips = skips-moved;
      read = read-moved sound.placed.read;
      waiting = waits-moved t.waits sound.placed.waiting;
      ended = sound.placed.ended;
      reads = sound.placed.reads;
    });
    known = known-other t.skips t.after_previous t.end.0 u.bytes.now (tab_of u.parse_state.now) other_bytes own 0 (plain-none t.skips t.after_previous t.end.0) t.waits;
    made = λ reads. made-alike (seen t).given other_bytes (wide_of t sound) (end_within t) (end-place-in t sound) to-bytes t.events.items t.stack.items t.after_previous
        (standing t.skips t.after_previous t.waits) (read-not-behind sound.placed.read) (standing-not-behind t.waits) (sound.made reads);
    at_places = λ reads. subst (λ (o : ParseOptions). AreAtPlaces o.tab_size other_bytes t.events.items) options-same
        (places-alike (seen t).given other_bytes (wide_of t sound) (end_within t) (end-place-in t sound) to-bytes t.events.items t.stack.items (shown (bytes_within t) t.after_previous)
        (standing t.skips t.after_previous t.waits) (standing-not-behind t.waits) (sound.made reads) (sound.at_places reads));
    kept_choices = by-options NestedBy choices-moved;
    once = sound.once;
  }

  -- what contracts see of it, from what may differ
  abbrev seen_with : M → Text → ℕ → List Choice → TokenizerValue M R D
  seen_with m x position choices = record (seen t) {
    given = given_of u.parse_state.now;
    machine = m;
    text = x;
    configuration = record (seen t).configuration { position = position };
    choices = choices;
  }

  abbrev choices_by : ℕ → List Choice
  choices_by tab = map (choice_of (position_from tab other_bytes t.skips t.start) t.stack.items) (reverse t.kept_choices.items)

  pub moved-seen : u.parse_state.now.machine.now ≡ t.parse_state.now.machine.now → seen (moved_in t u) ≡ record (seen t) { given = given_of u.parse_state.now }
  moved-seen machine =
      let here = t.after_previous in let m = u.parse_state.now.machine.now in let mine = t.parse_state.now.machine.now in
      let choices : choices_by (tab_within t) ≡ (seen t).choices = same-choices (position_from (tab_within t) other_bytes t.skips t.start) (position_within t) t.stack.items t.stack.items (Saves t)
      (length t.events.items) (length t.stack.items) (reverse t.kept_choices.items) (λ p le saved. rw (position-moved p.after_previous (read-not-behind saved.read)) refl) sound.kept_choices in
      ap (λ (o : ParseOptions). seen_with m (text_by o) (position_from o.tab_size other_bytes t.skips t.start here) (choices_by o.tab_size)) (sym options-same)
      ∙ ap (λ (x : M). seen_with x (text_by t.parse_state.now.options.now) (position_from (tab_within t) other_bytes t.skips t.start here) (choices_by (tab_within t))) machine
      ∙ ap (λ (x : Text). seen_with mine x (position_from (tab_within t) other_bytes t.skips t.start here) (choices_by (tab_within t))) text-same
      ∙ ap (λ (n : ℕ). seen_with mine (text_within t) n (choices_by (tab_within t))) (position-moved here (read-not-behind sound.placed.read))
      ∙ ap (seen_with mine (text_within t) (position_within t here)) choices
