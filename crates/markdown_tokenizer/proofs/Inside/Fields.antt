-- What the steps of the code do to the fields of a tokenizer, and what that means.
use Rattle.markdown_tokenizer.proofs.Prelude.{AllByRecursion, ◌≡◌, ℕ, suc, ◌≤◌, ◌<◌, List, [], ◌∷◌, ◌++◌, Bool, true, false, Option, Some, None, length, refl, sym, ap, ◌∙◌, subst, arith, add-one, take, length-append, slice_get, reverse, filter, slice_get_within, false_from_ne_true, filter-append, Event, Point, Seat, virtual, shown, stands_before, is_upto, denotes_same, IsPointOf, Waits, Nothing, Byte, End, Inside, Text, in_range, is_kept, resumed, IsMade, tab_of, text_within, end_point, seats_between, position_from, reach, can_feed, IsReadTo, ByteWaits, IsWhatWaits, IsProgress, AreNested, IsSound, KeptChoice, Progress, IsPlace, IsSeatAt, rest_at, Given, IsPlaced, Phase, Reading}
use Rattle.std.proofs.lemmas.Bool.{or_right}
use Rattle.markdown_base.specs.declared.event.Name.{Name}
use Rattle.markdown_tokenizer.proofs.Positions.Seats.{rest-later}
use Rattle.markdown_tokenizer.proofs.Positions.Standing.{seat-begins, place-of-point, end-seat-place, shown-shown}
use Rattle.markdown_tokenizer.proofs.Positions.Cursors.{left_of, text-splits, range-same, range-empty, upto-self, upto-upto, upto-same, same-self, next-only, after-upto, upto-after, end-upto, rest-none, get-after}
use Rattle.markdown_tokenizer.proofs.Positions.Gaps.{IsResumed, resumed-at, consumed-outside}
use Rattle.markdown_tokenizer.proofs.Inside.Made.{made-bound}
use Rattle.markdown_tokenizer.proofs.Positions.Points.{same-shown}

-- tab stops are apart
pub wide_of : {M R D : Type 0} {same : R → R → Bool} (t : Inside M R D) → IsSound same t → 0 < tab_of t.parse_state.now
wide_of t sound = let least : 1 ≤ tab_of t.parse_state.now = sound.placed.text.document.tab.0 in omega (arith, least)

-- another place was read to, something else waits, or a text is closed
pub placed-there : {g : Given} {size : ℕ} {passes : List Point} {text : Text} {last : ℕ × ℕ} {after after_previous : Point} {before previous : Option ℕ} {waited byte : ℕ} {some waits : Waits} {fed end_fed open_still closed : Bool} {was phase : Phase}
    → IsPlaced g size passes text last after before waited some fed open_still was → IsReadTo g.tab g.bytes passes text after_previous previous → IsWhatWaits g.tab g.bytes passes text after_previous byte closed waits
    → (end_fed ≡ true → closed ≡ true) → (closed ≡ false → phase ≡ Reading) → IsPlaced g size passes text last after_previous previous byte waits end_fed closed phase
placed-there p read waiting ended reads = record { tab = p.tab; end_at = p.end_at; text = p.text; skips = p.skips; read = read; waiting = waiting; ended = ended; reads = reads }

module _ (tab : ℕ) (bytes : List ℕ) (skips : List Point) where
  -- the text is what was read and what is left
  pub kept-splits : (start p end : Point) → IsPlace tab bytes p → is_upto tab bytes start p ≡ true → is_upto tab bytes p end ≡ true
      → seats_between tab bytes skips start end ≡ seats_between tab bytes skips start p ++ filter (is_kept skips) (left_of tab bytes p end)
  kept-splits start p end place from upto =
      ap (filter (is_kept skips)) (text-splits tab bytes start p end place from upto) ∙ filter-append (is_kept skips) (filter (in_range start p) (virtual tab bytes)) (left_of tab bytes p end)

  pub kept-same : (a b c d : Point) → denotes_same tab bytes a c ≡ true → denotes_same tab bytes b d ≡ true → seats_between tab bytes skips a b ≡ seats_between tab bytes skips c d
  kept-same a b c d h k = ap (filter (is_kept skips)) (range-same tab bytes a b c d h k)

-- nothing was read of the empty text
pub read-start : (tab : ℕ) (wide : 0 < tab) (bytes : List ℕ) (p : Point) → IsPointOf tab bytes p → IsReadTo tab bytes [] (record { start = p; seats = seats_between tab bytes [] p p; end = p }) p None
read-start tab wide bytes p h =
    let none : position_from tab bytes [] p p ≡ 0 = ap (λ (xs : List Seat). length (filter (is_kept []) xs)) (range-empty tab bytes p) in
    record {
      place = place-of-point tab bytes wide p h;
      from = upto-self tab bytes p;
      upto = upto-self tab bytes p;
      outside = λ q e. absurd cc;
      back = rw none refl;
      previous_is = rw none refl;
    }

-- a text of the document between two places
abbrev pub text_between : (tab : ℕ) → List ℕ → List Point → Point → Point → Text
text_between tab bytes skips start end = record { start = start; seats = seats_between tab bytes skips start end; end = end }

first-kept : {A : Type 0} (f : A → Bool) (x : A) (xs : List A) → f x ≡ true → filter f (x ∷ xs) ≡ x ∷ filter f xs
first-kept f x xs e = rw e refl

-- what choices saved, seen in another way, among other events and open spans
pub nested-as : (P Q : Progress → Type 0) (a b c d : ℕ) (kept_choices : List KeptChoice) → ((p : Progress) → p.events_len ≤ a → p.stack_len ≤ b → P p → (p.events_len ≤ c) × (p.stack_len ≤ d) × Q p)
    → AreNested P a b kept_choices → AreNested Q c d kept_choices
nested-as P Q a b c d [] f h = tt
nested-as P Q a b c d (choice ∷ kept_choices) f h =
    elim choice.saved as (λ (saved : Option Progress). AreNested P a b (record choice { saved = saved } ∷ kept_choices) → AreNested Q c d (record choice { saved = saved } ∷ kept_choices)) [
      | None ↦ λ k. (tt, nested-as P Q a b c d kept_choices f k.1)
      | Some p ↦ λ k. (f p k.0.0 k.0.1 k.0.2, nested-as P Q p.events_len p.stack_len p.events_len p.stack_len kept_choices (λ q x y l. (x, y, (f q (omega arith) (omega arith) l).2)) k.1)
    ] h

pub nested-map : (P Q : Progress → Type 0) (events stack : ℕ) (kept_choices : List KeptChoice) → ((p : Progress) → p.events_len ≤ events → p.stack_len ≤ stack → P p → Q p)
    → AreNested P events stack kept_choices → AreNested Q events stack kept_choices
nested-map P Q events stack kept_choices f h = nested-as P Q events stack events stack kept_choices (λ p a b k. (a, b, f p a b k)) h

-- the document of a tokenizer's text: its bytes, its tab size, and where the text ends
module _ {M R D : Type 0} (t : Inside M R D) where
  abbrev pub bytes_within : List ℕ
  bytes_within = t.parse_state.now.bytes.now

  abbrev pub tab_within : ℕ
  tab_within = tab_of t.parse_state.now

  abbrev pub end_within : Point
  end_within = end_point tab_within bytes_within t.end

  -- the bytes that a place has behind it in the text, and how many they are in all of it
  abbrev pub position_within : Point → ℕ
  position_within = position_from tab_within bytes_within t.skips t.start

  abbrev pub size_within : ℕ
  size_within = length (text_within t).seats

  -- in the text: what was read up to a place, what waits, a byte that waits, and the byte at a place
  abbrev pub ReadWithin : Point → Option ℕ → Type 0
  ReadWithin = IsReadTo tab_within bytes_within t.skips (text_within t)

  abbrev pub WaitsWithin : Waits → Type 0
  WaitsWithin = IsWhatWaits tab_within bytes_within t.skips (text_within t) t.after_previous t.byte t.closed

  abbrev pub ByteWithin : Type 0
  ByteWithin = ByteWaits tab_within bytes_within t.skips t.after_previous end_within t.byte

  abbrev pub IsSeatWithin : Point → Seat → Type 0
  IsSeatWithin = IsSeatAt tab_within bytes_within

  -- these events and open spans are made up to a place at which an enter may be, if the place after the byte before is this one
  abbrev pub MadeUpto : List Event → List Name → (after_previous : Point) → Point → Type 0
  MadeUpto events stack after_previous p = IsMade bytes_within events stack (shown bytes_within after_previous) (shown bytes_within p)

-- what a choice of a tokenizer saved
abbrev pub Saves : {M R D : Type 0} → Inside M R D → Progress → Type 0
Saves t = IsProgress t.phase (tab_within t) (bytes_within t) t.skips (text_within t) t.events.items t.stack.items t.closed

module _ {M R D : Type 0} {same : R → R → Bool} (t : Inside M R D) (sound : IsSound same t) where
  -- a text was read up to a place
  module _ {after_previous : Point} {previous : Option ℕ} (read : ReadWithin t after_previous previous) where
    abbrev here : Point
    here = resumed t.skips after_previous

    -- the place from which the next byte is looked for
    pub looks : IsResumed (tab_within t) (bytes_within t) t.skips t.start (end_within t) after_previous here
    looks = resumed-at (tab_within t) (bytes_within t) (wide_of t sound) t.skips t.start (end_within t) after_previous sound.placed.skips read.place read.from read.upto read.outside

    -- no more was read than the text
    pub within : position_within t after_previous ≤ size_within t
    within =
        let splits = kept-splits (tab_within t) (bytes_within t) t.skips t.start after_previous (end_within t) read.place read.from read.upto in
        omega (arith, ap length splits, length-append (seats_between (tab_within t) (bytes_within t) t.skips t.start after_previous) (filter (is_kept t.skips) (left_of (tab_within t) (bytes_within t) after_previous (end_within t))))

    pub here-all : is_upto (tab_within t) (bytes_within t) (end_within t) here ≡ true → size_within t ≤ position_within t after_previous
    here-all e =
        let same = kept-same (tab_within t) (bytes_within t) t.skips t.start (end_within t) t.start here (same-self (tab_within t) (bytes_within t) t.start) (upto-same (tab_within t) (bytes_within t) (end_within t) here e looks.upto) in
        omega (arith, ap length same, ap length looks.same)

    module _ (seat : Seat) (n : IsSeatWithin t here seat) where
      -- the next byte of the text is the next byte of the document, if that is in the text
      pub next-seat : stands_before seat.point (end_within t) ≡ true → slice_get (text_within t).seats (position_within t after_previous) ≡ Some seat
      next-seat lt =
          let read_here = seats_between (tab_within t) (bytes_within t) t.skips t.start here in
          let f = λ (s : Seat). stands_before s.point (end_within t) in
          let rest = filter (is_kept t.skips) (filter f n.after) in
          let left_is = ap (filter (is_kept t.skips)) (ap (filter f) n.is ∙ first-kept f seat n.after lt) ∙ first-kept (is_kept t.skips) seat (filter f n.after) (looks.fresh seat n) in
          let splits = kept-splits (tab_within t) (bytes_within t) t.skips t.start here (end_within t) looks.place looks.from looks.upto ∙ ap (λ (xs : List Seat). read_here ++ xs) left_is in
          ap (λ (xs : List Seat). slice_get xs (position_within t after_previous)) splits ∙ ap (λ (k : ℕ). slice_get (read_here ++ seat ∷ rest) k) (sym (ap length looks.same)) ∙ get-after read_here (seat ∷ rest)

      pub next-more : stands_before seat.point (end_within t) ≡ true → position_within t after_previous < size_within t
      next-more lt = slice_get_within _ _ _ (next-seat lt)

      -- else all was read
      pub next-past : stands_before seat.point (end_within t) ≡ false → size_within t ≤ position_within t after_previous
      next-past lt = here-all (end-upto (tab_within t) (bytes_within t) here seat looks.place n (end_within t) lt)

      -- one more is read once it is consumed
      pub next-number : position_within t seat.end ≡ suc (position_within t after_previous)
      next-number =
          let read_here = seats_between (tab_within t) (bytes_within t) t.skips t.start here in
          let only = ap (filter (is_kept t.skips)) (next-only (tab_within t) (bytes_within t) here seat looks.place n (wide_of t sound)) ∙ first-kept (is_kept t.skips) seat [] (looks.fresh seat n) in
          let splits = kept-splits (tab_within t) (bytes_within t) t.skips t.start here seat.end looks.place looks.from (upto-after (tab_within t) (bytes_within t) here seat looks.place n (wide_of t sound)) ∙ ap (λ (xs : List Seat). read_here ++ xs) only in
          ap length splits ∙ length-append read_here (seat ∷ []) ∙ add-one (length read_here) ∙ ap (λ (xs : List Seat). suc (length xs)) looks.same

      -- once the next byte is consumed, the text was read up to its end
      pub read-next : stands_before seat.point (end_within t) ≡ true → ReadWithin t seat.end (Some seat.byte)
      read-next lt = record {
        place = end-seat-place (tab_within t) (bytes_within t) (wide_of t sound) here seat looks.place n;
        from = upto-upto (tab_within t) (bytes_within t) t.start here seat.end looks.from (upto-after (tab_within t) (bytes_within t) here seat looks.place n (wide_of t sound));
        upto = after-upto (tab_within t) (bytes_within t) here seat looks.place n (wide_of t sound) (end_within t) looks.upto lt;
        outside = consumed-outside (tab_within t) (bytes_within t) (wide_of t sound) here seat t.skips looks.place n (looks.fresh seat n);
        back = rw (next-number, next-seat lt) refl;
        previous_is = rw (next-number, next-seat lt) refl;
      }

    -- at the document's end all was read
    pub next-none-left : rest_at (tab_within t) (bytes_within t) here ≡ [] → size_within t ≤ position_within t after_previous
    next-none-left e = here-all (rest-none (tab_within t) (bytes_within t) here (end_within t) looks.place e)

    module _ (all : size_within t ≤ position_within t after_previous) where
      -- if all was read, the place of an enter is the end
      ends-here : (rest : List Seat) → rest_at (tab_within t) (bytes_within t) here ≡ rest → is_upto (tab_within t) (bytes_within t) (end_within t) here ≡ true
      ends-here [] e = rest-none (tab_within t) (bytes_within t) here (end_within t) looks.place e
      ends-here (seat ∷ after) e =
          let begins = seat-begins (tab_within t) (bytes_within t) (wide_of t sound) looks.place.before seat after (looks.place.splits ∙ ap (λ (xs : List Seat). looks.place.before ++ xs) e) in
          let later = subst (AllByRecursion (λ s. stands_before s.point here ≡ false)) e (rest-later (tab_within t) (bytes_within t) here) in
          let n : IsSeatWithin t here seat = record { after = after; is = e; same = begins.at_seat ∙ sym e; later = later.0; inside = begins.inside } in
          end-upto (tab_within t) (bytes_within t) here seat looks.place n (end_within t) (false_from_ne_true _ (λ lt. let more = next-more seat n lt in omega arith))

      pub end-shown : IsPlace (tab_within t) (bytes_within t) (end_within t) → shown (bytes_within t) (end_within t) ≡ shown (bytes_within t) here
      end-shown place = same-shown (tab_within t) (bytes_within t) (end_within t) here place looks.place (upto-same (tab_within t) (bytes_within t) (end_within t) here (ends-here (rest_at (tab_within t) (bytes_within t) here) refl) looks.upto)

    module _ (events : List Event) (stack : List Name) where
      -- an enter may be after a gap
      pub made-later : MadeUpto t events stack after_previous after_previous → MadeUpto t events stack after_previous (resumed t.skips after_previous)
      made-later m = made-bound (bytes_within t) events stack (shown (bytes_within t) after_previous) (shown (bytes_within t) after_previous) m (shown (bytes_within t) (resumed t.skips after_previous))
          looks.shown_later (shown-shown (tab_within t) (bytes_within t) (resumed t.skips after_previous))

      -- if more can be fed, an enter may have a later place
      pub made-more : (a b : Bool) → (a ≡ true → b ≡ true) → MadeUpto t events stack after_previous (reach t.skips after_previous a) → MadeUpto t events stack after_previous (reach t.skips after_previous b)
      made-more false true f m = made-later m
      made-more true false f m = absurd (let e : false ≡ true = f refl in cc)
      made-more _ _ f m = m

  -- a text is closed
  pub closed-sound : IsSound same (record t { closed = true })
  closed-sound = record {
    placed = placed-there sound.placed sound.placed.read
        (elim t.waits as (λ (w : Waits). WaitsWithin t w → IsWhatWaits (tab_within t) (bytes_within t) t.skips (text_within t) t.after_previous t.byte true w)
        [ Nothing ↦ λ h. h | Byte ↦ λ h. h | End ↦ λ h. record { closed_too = refl; all = h.all } ] sound.placed.waiting) (λ _. refl) (λ e. absurd (let f : true ≡ false = e in cc));
    made = sound.made;
    at_places = sound.at_places;
    kept_choices = nested-map (Saves t) (IsProgress t.phase (tab_within t) (bytes_within t) t.skips (text_within t) t.events.items t.stack.items true)
        (length t.events.items) (length t.stack.items) (reverse t.kept_choices.items) (λ p a b h.
        let position = position_within t p.after_previous in
        record {
          read = h.read;
          ended = λ _. refl;
          made = λ reads. made-more h.read (take p.events_len t.events.items) (take p.stack_len t.stack.items)
              (can_feed position (length (text_within t).seats) t.closed) (can_feed position (length (text_within t).seats) true) (λ e. or_right _ true refl) (h.made reads);
        }) sound.kept_choices;
    once = sound.once;
    known = sound.known;
  }
