-- Ranges are read as one text: the places of their ends, the pieces that they are pushed as, and what is read of these.
use Rattle.markdown_children.proofs.Parts.Untorn.{gap-seats}
use Rattle.mddocument.proofs.Prelude.{List, [], ap, arith, false, get_or, inl, inr, refl, subst, sym, true, ℕ, ◌+◌, ◌<◌, ◌∙◌, ◌∷◌, ◌++◌, ◌≡◌, ◌≤◌, ◌==◌, ◌≢◌, Contains, Some, cond, drop, filter, length, suc, zero, cases_lt, eq-eqb, ne_eqb, nat_tests, append-nil, append_assoc, drop_more, same_Some, point-of_reached, HasNoLineEnding, is_line_start, denotes_same, IsPointOf, point_at, stands_before, point, Seat, virtual, ParseOptions, Point, Message, State, Error, Next, TextStart, by_test, flagged, Reads, reads-passed, reached-at, column_at, line_at, same-self, upto-order, point_at-is, holds-on, leads-refl, text-on, Configuration, start_configuration, start_seen, TokenizerValue, given_by, IsFlushed, IsRefused, IsWellFormed, LeadsOn, KeepsInvariant, EndsIn, Reading, Rules, CanFollow, empty_text, FitsAfter, followed_by, followed_by_all, Given, in_range, IsDocument, IsText, passed, Piece, pushed, Text, Subresult, FollowFrom, is_in, IsRangeFrom, seats_in, text_events_in, ByteRange, ending, ends-so, from-start, text_step, seat_events, text_events, text_rules}
use Rattle.markdown_base.specs.declared.state.State.TheVariants.{Ok}

module _ (t : ℕ) (bytes : List ℕ) where
  -- the place of an index
  abbrev pub place : ℕ → Point
  place i = point (line_at bytes i) (column_at t bytes i) i 0

  -- a line that starts at an index starts in column 1
  pub line-start : (i : ℕ) → is_line_start bytes i ≡ true → column_at t bytes i ≡ 1
  line-start zero e = refl
  line-start (suc k) e = rw e refl

  -- without line endings between them, two indices are in one line
  pub same-line : (from to : ℕ) → from ≤ to → HasNoLineEnding bytes from to → line_at bytes to ≡ line_at bytes from
  same-line from zero le none = let e : from ≡ 0 = omega (arith, le) in rw e refl
  same-line from (suc k) le none = elim (cases_lt from (suc k)) [
    | inl lt ↦
        let other = none k (omega (arith, lt)) (omega arith) in
        rw (ne_eqb _ 13 other.1, ne_eqb _ 10 other.0) (same-line from k (omega (arith, lt)) (λ i low high. none i low (omega (arith, high))))
    | inr ge ↦ let e : from ≡ suc k = omega (arith, le, ge) in rw e refl
  ]

  stands-later : (i k : ℕ) → i < k → stands_before (place i) (place k) ≡ true
  stands-later i k lt = grind (arith, nat_tests, lt)

  stands-first : (i k : ℕ) → i ≤ k → stands_before (place k) (place i) ≡ false
  stands-first i k le = grind (arith, nat_tests, le)

  -- a virtual byte is in a range of places if it is in that of their indices
  in-same : (range : ByteRange) (s : Seat) → in_range (place range.from) (place range.to) s ≡ is_in range s
  in-same range s = grind (arith, nat_tests)

  in-range-same : (range : ByteRange) (xs : List Seat) → filter (in_range (place range.from) (place range.to)) xs ≡ filter (is_in range) xs
  in-range-same range xs = λ j. filter (λ s. in-same range s j) xs

  pub place-at : 0 < t → (i : ℕ) → i ≤ length bytes → point_at t bytes (i, 0) ≡ Some (place i)
  place-at some i h = point-of_reached t some bytes (line_at bytes i) (column_at t bytes i) i (reached-at t some bytes i h)

  pub place-is : 0 < t → (i : ℕ) → i ≤ length bytes → IsPointOf t bytes (place i)
  place-is some i h = (point_at-is t bytes (i, 0) (place i) (place-at some i h)).is_point

module _ (options : ParseOptions) (bytes : List ℕ) where
  abbrev t : ℕ
  t = options.tab_size

  abbrev at_index : ℕ → Point
  at_index = place t bytes

  abbrev g : Given
  g = given_by bytes options

  -- what is read behind an index: the gap up to another one, if there is one, and then the rest
  abbrev pub after_gap : (end from : ℕ) → List Piece → List Piece
  after_gap end from rest = cond (from == end) rest (passed (at_index from) ∷ rest)

  -- the range of a range of bytes, and then the rest
  abbrev pub from_range : ByteRange → List Piece → List Piece
  from_range range rest = pushed (at_index range.from) (at_index range.to) ∷ rest

  -- the pieces of ranges behind an index
  abbrev pub pieces_from : (end : ℕ) → List ByteRange → List Piece
  pieces_from end [] = []
  pieces_from end (range ∷ ranges) = after_gap end range.from (from_range range (pieces_from range.to ranges))

  -- their text, from an index on
  abbrev pub text_from : ℕ → List ByteRange → Text
  text_from start ranges = followed_by_all g (empty_text (at_index start)) (pieces_from start ranges)

  -- what a range and then others read behind a text
  range-seats : (text : Text) (range : ByteRange) (ranges : List ByteRange) → ((text : Text) → (followed_by_all g text (pieces_from range.to ranges)).seats ≡ text.seats ++ seats_in t bytes ranges)
      → (followed_by_all g text (from_range range (pieces_from range.to ranges))).seats ≡ text.seats ++ seats_in t bytes (range ∷ ranges)
  range-seats text range ranges more =
      let here = filter (in_range (at_index range.from) (at_index range.to)) (virtual t bytes) in
      more (followed_by g text (pushed (at_index range.from) (at_index range.to)))
      ∙ append_assoc text.seats here (seats_in t bytes ranges) ∙ ap (λ xs. text.seats ++ (xs ++ seats_in t bytes ranges)) (in-range-same t bytes range (virtual t bytes))

  -- the pieces of ranges read the virtual bytes in them
  pub pieces-seats : (text : Text) (end : ℕ) (ranges : List ByteRange) → (followed_by_all g text (pieces_from end ranges)).seats ≡ text.seats ++ seats_in t bytes ranges
  pieces-seats text end [] = sym (append-nil text.seats)
  pieces-seats text end (range ∷ ranges) =
      let after : Text = followed_by g text (passed (at_index range.from)) in
      let more = λ (text : Text). pieces-seats text range.to ranges in
      by_test (range.from == end)
      (λ e. rw e (range-seats text range ranges more))
      (λ e. rw e (range-seats after range ranges more ∙ ap (λ xs. xs ++ seats_in t bytes (range ∷ ranges)) (gap-seats g text (at_index range.from))))

  module _ (some : 0 < t) where
    -- a range fits where the text ends at its first byte
    range-fits : (text : Text) (range : ByteRange) → range.from ≤ range.to → range.to ≤ length bytes → denotes_same t bytes (at_index range.from) text.end ≡ true
        → FitsAfter g text (pushed (at_index range.from) (at_index range.to))
    range-fits text range forward inside same =
        (place-is t bytes some range.from (omega (arith, forward, inside)), place-is t bytes some range.to inside, same, upto-order t bytes (at_index range.from) (at_index range.to) (stands-first t bytes range.from range.to forward))

    range-follows : (text : Text) (end : ℕ) (range : ByteRange) (ranges : List ByteRange) → IsRangeFrom bytes end range → ((text : Text) → text.end ≡ at_index range.to → CanFollow g text (pieces_from range.to ranges))
        → denotes_same t bytes (at_index range.from) text.end ≡ true → CanFollow g text (from_range range (pieces_from range.to ranges))
    range-follows text end range ranges one more same =
        (range-fits text range one.forward one.inside same, more (followed_by g text (pushed (at_index range.from) (at_index range.to))) refl)

    -- ranges that follow one another can be pushed one after another
    pub pieces-follow : (text : Text) (end : ℕ) (ranges : List ByteRange) → FollowFrom bytes end ranges → text.end ≡ at_index end → CanFollow g text (pieces_from end ranges)
    pieces-follow text end [] h at = tt
    pieces-follow text end (range ∷ ranges) h at =
        let from = range.from in
        let one = h.0 in
        let more = λ (text : Text) (at : text.end ≡ at_index range.to). pieces-follow text range.to ranges h.1 at in
        elim one.goes_on [
          | inl same ↦
              let there : text.end ≡ at_index from = at ∙ ap at_index (sym same) in
              rw (eq-eqb from end same) (range-follows text end range ranges one more (ap (denotes_same t bytes (at_index from)) there ∙ same-self t bytes (at_index from)))
          | inr gap ↦
              let after : Text = followed_by g text (passed (at_index from)) in
              let fits : FitsAfter g text (passed (at_index from)) = rw at (
                place-is t bytes some from (omega (arith, one.forward, one.inside)),
                inr (line-start t bytes end gap.1, same-line t bytes end from (omega (arith, gap.0)) gap.2, stands-later t bytes end from gap.0),
              ) in
              let same : denotes_same t bytes (at_index from) after.end ≡ true = by_test (denotes_same t bytes (at_index from) text.end) (λ e. rw e e) (λ e. rw e (same-self t bytes (at_index from))) in
              rw (ne_eqb from end (λ e. omega (arith, gap.0, e))) (fits, range-follows after end range ranges one more same)
        ]

  -- An open tokenizer that reads ranges from an index on. These pieces are left
  abbrev pub ReadsRanges : {M R D : Type 0} → (Given → Rules R D) → M → ℕ → List ByteRange → List Piece → TokenizerValue M R D → State → Type 0
  ReadsRanges rules m start ranges = Reads g (λ _. rules) m (at_index start) false TextStart (text_from start ranges)

  module _ {M R D : Type 0} (rules : Given → Rules R D) (m : M) (start : ℕ) (ranges : List ByteRange) (document : IsDocument g) (inside : start ≤ length bytes) (follow : FollowFrom bytes start ranges) where
    wide : 0 < t
    wide = let tab = document.tab.0 in omega (arith, tab)

    start-text : IsText g (empty_text (at_index start))
    start-text = record { document = document; starts = place-is t bytes wide start inside; pieces = []; follow = tt; is = refl }

    all-follow : CanFollow g (empty_text (at_index start)) (pieces_from start ranges)
    all-follow = pieces-follow wide (empty_text (at_index start)) start ranges follow refl

    pub ranges-are-text : IsText g (text_from start ranges)
    ranges-are-text = text-on g (empty_text (at_index start)) (pieces_from start ranges) start-text all-follow

    -- at the start all pieces are left
    pub ranges-first : KeepsInvariant g (rules g) → Contains (rules g).starts TextStart → {k : TokenizerValue M R D} → k ≡ start_seen g m (empty_text (at_index start))
        → ReadsRanges rules m start ranges (pieces_from start ranges) k (Next TextStart)
    ranges-first keeps among {k} e =
        let text = empty_text (at_index start) in
        rw e (record {
          same_given = refl;
          machine = refl;
          open_still = refl;
          follow = all-follow;
          whole = refl;
          outcome = λ rest can.
              leads-refl g (rules g) (followed_by_all g text rest) (flagged g m (at_index start) false) (Next TextStart)
              (holds-on g (rules g) keeps text rest (start_configuration false) [] (Next TextStart) start-text can refl (keeps.at_starts (at_index start) false TextStart start-text among));
        })

    -- where no piece is left, an end of what comes is an end of the text
    pub ranges-end : {k : TokenizerValue M R D} {state : State} → ReadsRanges rules m start ranges [] k state → (q : Reading R D)
        → EndsIn k.given (rules k.given).step k.text k.calls k.configuration k.choices state q → EndsIn g (rules g).step (text_from start ranges) 0 (start_configuration false) [] (Next TextStart) q
    ranges-end {k} {state} r q ends =
        let leads : LeadsOn g (rules g) (text_from start ranges) (flagged g m (at_index start) false) (Next TextStart) k state = subst (λ (x : Text). LeadsOn g (rules g) x (flagged g m (at_index start) false) (Next TextStart) k state) r.whole (r.outcome [] tt) in
        let here : EndsIn g (rules g).step (text_from start ranges) k.calls k.configuration k.choices state q =
        subst (λ (x : Text). EndsIn g (rules g).step x k.calls k.configuration k.choices state q) r.whole
        (subst (λ (x : Given). EndsIn x (rules x).step k.text k.calls k.configuration k.choices state q) r.same_given ends) in
        (leads.same q).0 here

  module _ {M R D : Type 0} {rules : Given → Rules R D} {m : M} {start : ℕ} (all : List ByteRange) {k : TokenizerValue M R D} {state : State} where
    -- the next range is one of the list
    pub reads-next : (end n : ℕ) (ranges : List ByteRange) (d : ByteRange) → n < length ranges → ReadsRanges rules m start all (pieces_from end (drop n ranges)) k state
        → ReadsRanges rules m start all (after_gap end (get_or ranges n d).from (from_range (get_or ranges n d) (pieces_from (get_or ranges n d).to (drop (n + 1) ranges)))) k state
    reads-next end n ranges d h = subst (λ (rs : List ByteRange). ReadsRanges rules m start all (pieces_from end rs) k state) (drop_more ranges n d h)

    -- a gap comes next, or there is none
    pub reads-gap : (end from : ℕ) (rest : List Piece) → from ≢ end → ReadsRanges rules m start all (after_gap end from rest) k state → ReadsRanges rules m start all (passed (at_index from) ∷ rest) k state
    reads-gap end from rest other = subst (λ b. ReadsRanges rules m start all (cond b rest (passed (at_index from) ∷ rest)) k state) (ne_eqb from end other)

    pub reads-no-gap : (end from : ℕ) (rest : List Piece) → from ≡ end → ReadsRanges rules m start all (after_gap end from rest) k state → ReadsRanges rules m start all rest k state
    reads-no-gap end from rest same = subst (λ b. ReadsRanges rules m start all (cond b rest (passed (at_index from) ∷ rest)) k state) (eq-eqb from end same)

    module _ (some : 0 < t) (from : ℕ) (inside : from ≤ length bytes) (gap : Point) (is : point_at t bytes (from, 0) ≡ Some gap) (rest : List Piece) (r : ReadsRanges rules m start all (passed (at_index from) ∷ rest) k state) where
      gap-is : at_index from ≡ gap
      gap-is = same_Some (at_index from) gap (sym (place-at t bytes some from inside) ∙ is)

      -- it fits, and then the rest comes next
      pub gap-fits : FitsAfter k.given k.text (passed gap)
      gap-fits = subst (λ (p : Point). FitsAfter k.given k.text (passed p)) gap-is (subst (λ (x : Given). FitsAfter x k.text (passed (at_index from))) (sym r.same_given) r.follow.0)

      pub gap-passed : {u : TokenizerValue M R D} → u ≡ record k { text = followed_by k.given k.text (passed gap) } → ReadsRanges rules m start all rest u state
      gap-passed {u} e = reads-passed r (e ∙ ap (λ (p : Point). record k { text = followed_by k.given k.text (passed p) }) (sym gap-is))

module _ (options : ParseOptions) (bytes : List ℕ) {M : Type 0} (m : M) (start : ℕ) (ranges : List ByteRange) (document : IsDocument (given_by bytes options)) (inside : start ≤ length bytes) (follow : FollowFrom bytes start ranges)
    {k : TokenizerValue M Unit Unit} {state : State} (r : ReadsRanges options bytes text_rules m start ranges [] k state) where
  -- by the machine of texts the text is read as its items
  ranges-text : (q : Reading Unit Unit) → EndsIn k.given (text_rules k.given).step k.text k.calls k.configuration k.choices state q → (q.answer ≡ Ok) × (q.configuration.events ≡ text_events_in options bytes ranges)
  ranges-text q ends =
      let g = given_by bytes options in
      let text = text_from options bytes start ranges in
      let so = ends-so g text (text_step g) (start_configuration false) (Next TextStart) (ending (text_events g text)) (from-start g text (ranges-are-text options bytes text_rules m start ranges document inside follow) false) q
      (ranges-end options bytes text_rules m start ranges document inside follow r q ends) in
      (so.0, so.1 ∙ ap (seat_events options.constructs bytes) (pieces-seats options bytes (empty_text (place options.tab_size bytes start)) start ranges))

  pub ranges-flushed : {v : TokenizerValue M Unit Unit} {sub : Subresult} → IsFlushed (text_rules k.given) false k state v sub
      → (v.configuration.events ≡ text_events_in options bytes ranges) × IsWellFormed (given_by bytes options) v.configuration.events
  ranges-flushed {v} f = (
    ap (λ (c : Configuration Unit Unit). c.events) f.resolved.0 ∙ (ranges-text f.result f.ends).1,
    subst (λ (x : Given). IsWellFormed x v.configuration.events) r.same_given (f.well_formed refl),
  )

  pub never-refused : {v : TokenizerValue M Unit Unit} {message : Message} → IsRefused (text_rules k.given) false k state v message → ⊥
  never-refused {v} {message} f = elim f.message [
    | inl refused ↦ let no : Ok ≡ Error message = sym (ranges-text f.result f.ends).0 ∙ refused in absurd (cc)
    | inr resolving ↦ resolving.1
  ]
