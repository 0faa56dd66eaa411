-- Laws about gaps: places in lines and columns, and what a gap leaves to be read.
use Rattle.markdown_tokenizer.proofs.Prelude.{AllByRecursion, ◌≡◌, ℕ, ◌≤◌, ◌<◌, ◌==◌, List, [], ◌∷◌, ◌++◌, Bool, true, false, cond, Option, Some, None, refl, sym, ap, ◌∙◌, subst, arith, ◌⊎◌, inl, inr, filter, unwrap_or, not, nat_tests, find-append, filter-append, append-nil, eqb-true, not-true, and_parts, Point, Seat, point, virtual, end_after, stands_before, shown, is_upto, denotes_same, every-map, every-append, filter-none, leads-back, rest_at, IsPlace, IsSeatAt, goes_on, end_at, in_range, skip_of, is_kept_by, is_kept, resumed, kept_between, IsSkip, IsOutside}
use Rattle.std.proofs.lemmas.Bool.{true_from_ne_false}
use Rattle.std.proofs.lemmas.List.Recursion.{found_push_other}
use Rattle.markdown_tokenizer.proofs.Positions.Order.{later-later, before-self, is-not, before-upto, upto-before, after-before, every-all, every-both, every-kept, not-number, filter-every, filter-same}
use Rattle.markdown_tokenizer.proofs.Positions.Seats.{rest-later}
use Rattle.markdown_tokenizer.proofs.Positions.Chains.{IsChain, whole-chain}
use Rattle.markdown_tokenizer.proofs.Positions.Standing.{next-begins, shown-upto, chain-upto}
use Rattle.markdown_tokenizer.proofs.Positions.Cursors.{upto-order, upto-self, upto-upto, same-upto, same-back, same-self, left_of, text-splits, range-same, range-empty, Leads, upto-leads, split-every}
use Rattle.markdown_tokenizer.proofs.Positions.Points.{shown-line, shown-column, same-shown}
use Rattle.markdown_tokenizer.proofs.Positions.Lines.{lies_before, lies-shown, lies-later, LiesIn, StandsBetween, begins-at, chain-between, way-chain, way-ends, way-none, upto-shown, places-rise, seats-between}

-- the place at which a line's gap ends is in that line, and in the list
skip-is : (P : Point → Type 0) (skips : List Point) (line : ℕ) (p : Point) → AllByRecursion P skips → skip_of skips line ≡ Some p → (p.line ≡ line) × P p
skip-is P [] line p h e = absurd (cc)
skip-is P (x ∷ xs) line p h e = elim (x.line == line) as (λ b. (x.line == line) ≡ b → cond b (Some x) (skip_of xs line) ≡ Some p → (p.line ≡ line) × P p) [
  | true ↦ λ f k. (let is : x ≡ p = cc in subst (λ (y : Point). (y.line ≡ line) × P y) is (eqb-true x.line line f, h.0))
  | false ↦ λ f k. skip-is P xs line p h.1 k
] refl e

-- whether a virtual byte is in a gap is said by its line
kept-by : (skips : List Point) (s : Seat) (line : ℕ) (o : Option Point) → s.point.line ≡ line → skip_of skips line ≡ o → is_kept skips s ≡ is_kept_by o s
kept-by skips s line o e f = ap (λ (l : ℕ). is_kept_by (skip_of skips l) s) e ∙ ap (λ (x : Option Point). is_kept_by x s) f

-- What holds of the place from which on the next byte is looked for
pub record IsResumed (t : ℕ) (bytes : List ℕ) (skips : List Point) (start end after_previous r : Point) : Type 0 where
  pub place : IsPlace t bytes r
  pub later : is_upto t bytes after_previous r ≡ true
  pub not_before : stands_before r after_previous ≡ false
  pub shown_later : stands_before (shown bytes r) (shown bytes after_previous) ≡ false
  pub from : is_upto t bytes start r ≡ true
  pub upto : is_upto t bytes r end ≡ true
  pub same : kept_between t bytes skips start r ≡ kept_between t bytes skips start after_previous
  pub fresh : (seat : Seat) → IsSeatAt t bytes r seat → is_kept skips seat ≡ true

module _ (t : ℕ) (bytes : List ℕ) (d : 0 < t) where
  -- the next virtual byte is in the line of the place
  pub seat-line : (p : Point) (seat : Seat) → IsPlace t bytes p → IsSeatAt t bytes p seat → seat.point.line ≡ p.line
  seat-line p seat place n =
      (begins-at t bytes (end_after (point 1 1 0 0) place.before) seat n.after (next-begins t bytes d p seat place n)).0
      ∙ ap (λ (x : Point). x.line) (sym place.stands) ∙ shown-line bytes p

  -- places of one line denote the same only in one column
  pub same-column : (p q : Point) → IsPlace t bytes p → IsPlace t bytes q → denotes_same t bytes p q ≡ true → p.column ≡ q.column
  same-column p q a b h = sym (shown-column bytes p) ∙ ap (λ (x : Point). x.column) (same-shown t bytes p q a b h) ∙ shown-column bytes q

  -- of two places of a line the one that is not after the other has no later column
  pub column-rises : (p q : Point) → IsPlace t bytes p → IsPlace t bytes q → is_upto t bytes p q ≡ true → p.line ≡ q.line → p.column ≤ q.column
  column-rises p q a b h e = elim (places-rise t bytes d p q a b h) [
    | inl s ↦ (let f = same-column p q a b s in omega arith)
    | inr (inl l) ↦ absurd (omega arith)
    | inr (inr l) ↦ omega (arith, l.1)
  ]

  -- all that a gap from a place on passes is in the gap
  jump-same : (skips : List Point) (after_previous : Point) (place : IsPlace t bytes after_previous) (start q : Point) → is_upto t bytes start after_previous ≡ true → IsPlace t bytes q
      → q.line ≡ after_previous.line
      → skip_of skips after_previous.line ≡ Some q → is_upto t bytes after_previous q ≡ true → kept_between t bytes skips start q ≡ kept_between t bytes skips start after_previous
  jump-same skips after_previous place start q from at line e later =
      let read = filter (in_range start after_previous) (virtual t bytes) in
      let left = left_of t bytes after_previous q in
      let f = λ (s : Seat). stands_before s.point q in
      let none : filter (is_kept skips) left ≡ [] = filter-none (is_kept skips) left (every-both (StandsBetween after_previous q) (λ s. f s ≡ true) (λ s. is_kept skips s ≡ false)
      (λ s b h. let same : s.point.line ≡ after_previous.line = omega (arith, b.0, b.1) in kept-by skips s after_previous.line (Some q) same e ∙ ap not h) left
      (seats-between t bytes d after_previous q place at later)
      (every-kept (λ s. stands_before s.point after_previous ≡ false) (λ s. f s ≡ true) f (λ s k h. h) (rest_at t bytes after_previous) (rest-later t bytes after_previous))) in
      ap (filter (is_kept skips)) (text-splits t bytes start after_previous q place from later) ∙ filter-append (is_kept skips) read left
      ∙ ap (λ (xs : List Seat). filter (is_kept skips) read ++ xs) none ∙ append-nil (filter (is_kept skips) read)

  module _ (skips : List Point) (start end after_previous : Point) (are : AllByRecursion (IsSkip t bytes end) skips) (place : IsPlace t bytes after_previous)
      (from : is_upto t bytes start after_previous ≡ true) (upto : is_upto t bytes after_previous end ≡ true) (outside : IsOutside skips after_previous) where
    stays : ((seat : Seat) → IsSeatAt t bytes after_previous seat → is_kept skips seat ≡ true) → IsResumed t bytes skips start end after_previous after_previous
    stays fresh = record {
      place = place;
      later = upto-self t bytes after_previous;
      not_before = before-self after_previous.index after_previous.vs;
      shown_later = before-self (shown bytes after_previous).index (shown bytes after_previous).vs;
      from = from;
      upto = upto;
      same = refl;
      fresh = fresh;
    }

    -- after a gap
    fresh-after : (p q : Point) → IsPlace t bytes p → p.line ≡ after_previous.line → skip_of skips after_previous.line ≡ Some q → stands_before p q ≡ false → (seat : Seat) → IsSeatAt t bytes p seat → is_kept skips seat ≡ true
    fresh-after p q at line e later seat n =
        kept-by skips seat after_previous.line (Some q) (seat-line p seat at n ∙ line) e
        ∙ ap not (later-later seat.point.index seat.point.vs p.index p.vs q.index q.vs n.later later)

    resumed-by : (b : Bool) (o : Option Point) → (after_previous.column == 1) ≡ b → skip_of skips after_previous.line ≡ o
        → IsResumed t bytes skips start end after_previous (cond b (unwrap_or o after_previous) after_previous)
    resumed-by false None e f = stays (λ seat n. kept-by skips seat after_previous.line None (seat-line after_previous seat place n) f)
    resumed-by true None e f = stays (λ seat n. kept-by skips seat after_previous.line None (seat-line after_previous seat place n) f)
    resumed-by false (Some q) e f = elim (outside q f) [ inl h ↦ absurd (is-not after_previous.column 1 e h) | inr h ↦ stays (fresh-after after_previous q place refl f h) ]
    resumed-by true (Some q) e f =
        let first = eqb-true after_previous.column 1 e in
        let (line, skip) = skip-is (IsSkip t bytes end) skips after_previous.line q are f in
        let before = true_from_ne_false (stands_before after_previous q) (λ k. omega (
          arith,
          column-rises q after_previous skip.place place
              (upto-order t bytes q after_previous k) line,
          skip.inside,
        )) in
        let later = upto-order t bytes after_previous q (after-before after_previous.index after_previous.vs q.index q.vs before) in
        record {
          place = skip.place;
          later = later;
          not_before = after-before after_previous.index after_previous.vs q.index q.vs before;
          shown_later = upto-shown t bytes d after_previous q place skip.place later;
          from = upto-upto t bytes start after_previous q from later;
          upto = skip.upto;
          same = jump-same skips after_previous place start q from skip.place line f later;
          fresh = fresh-after q q skip.place line f (before-self q.index q.vs);
        }

    pub resumed-at : IsResumed t bytes skips start end after_previous (resumed skips after_previous)
    resumed-at = resumed-by (after_previous.column == 1) (skip_of skips after_previous.line) refl refl

-- a virtual byte ends at the beginning of a line, or in the line where it is
end_at-line : (t byte : ℕ) (p : Point) (b c : Bool) → (byte == 10) ≡ b → goes_on t byte p ≡ c → ((end_at t byte p).column ≡ 1) ⊎ ((end_at t byte p).line ≡ p.line)
end_at-line t byte p true c e f = inl (rw e refl)
end_at-line t byte p false true e f = inr (rw (e, f) refl)
end_at-line t byte p false false e f = inr (rw (e, f) refl)

module _ (t : ℕ) (bytes : List ℕ) (d : 0 < t) where
  -- after a virtual byte that is in no gap one is in no gap
  pub consumed-outside : (r : Point) (seat : Seat) (skips : List Point) → IsPlace t bytes r → IsSeatAt t bytes r seat → is_kept skips seat ≡ true → IsOutside skips seat.end
  consumed-outside r seat skips place n kept p e =
      let begins = next-begins t bytes d r seat place n in
      elim (subst (λ (q : Point). (q.column ≡ 1) ⊎ (q.line ≡ seat.point.line)) begins.end_is (end_at-line t seat.byte seat.point (seat.byte == 10) (goes_on t seat.byte seat.point) refl refl)) [
        | inl h ↦ inl h
        | inr h ↦ inr (
            let later = not-true (stands_before seat.point p) (sym (kept-by skips seat seat.point.line (Some p) refl (ap (skip_of skips) (sym h) ∙ e)) ∙ kept) in
            later-later seat.end.index seat.end.vs seat.point.index seat.point.vs p.index p.vs (after-before seat.point.index seat.point.vs seat.end.index seat.end.vs begins.ends) later
            )
      ]

  -- gaps that end by a place end by a later one
  pub skips-upto : (skips : List Point) (end to : Point) → AllByRecursion (IsSkip t bytes end) skips → is_upto t bytes end to ≡ true → AllByRecursion (IsSkip t bytes to) skips
  skips-upto skips end to are h = every-map (IsSkip t bytes end) (IsSkip t bytes to)
      (λ p k. record { place = k.place; inside = k.inside; upto = upto-upto t bytes p end to k.upto h }) skips are

  -- what is left at a place is in no gap that ends by it
  kept-past : (end : Point) → IsPlace t bytes end → (skips : List Point) → AllByRecursion (IsSkip t bytes end) skips → AllByRecursion (λ s. is_kept skips s ≡ true) (rest_at t bytes end)
  kept-past end place [] are = every-all (λ s. is_kept [] s ≡ true) (λ s. refl) (rest_at t bytes end)
  kept-past end place (p ∷ ps) are =
      let leads = (split-every t bytes (Leads p end) end place (upto-leads t bytes p end are.0.upto)).1 in
      every-both (λ s. stands_before s.point p ≡ false) (λ s. is_kept ps s ≡ true) (λ s. is_kept (p ∷ ps) s ≡ true)
      (λ s h k. elim (p.line == s.point.line) as (λ b. is_kept_by (cond b (Some p) (skip_of ps s.point.line)) s ≡ true) [ true ↦ ap not h | false ↦ k ]) (rest_at t bytes end)
      (every-both (Leads p end) (λ s. stands_before s.point end ≡ false) (λ s. stands_before s.point p ≡ false) (λ s h k. leads-back (stands_before s.point p) (stands_before s.point end) h k)
      (rest_at t bytes end) leads (rest-later t bytes end)) (kept-past end place ps are.1)

  -- a range that is pushed
  module _ (skips : List Point) (end from to : Point) (are : AllByRecursion (IsSkip t bytes end) skips) (place : IsPlace t bytes end) (same : denotes_same t bytes from end ≡ true) (upto : is_upto t bytes from to ≡ true) where
    end-upto : is_upto t bytes end to ≡ true
    end-upto = upto-upto t bytes end from to (same-upto t bytes from end same).1 upto

    pushed-is : filter (in_range from to) (virtual t bytes) ≡ left_of t bytes end to
    pushed-is =
        range-same t bytes from to end to same (same-self t bytes to) ∙ text-splits t bytes end end to place (upto-self t bytes end) end-upto
        ∙ ap (λ (xs : List Seat). xs ++ left_of t bytes end to) (range-empty t bytes end)

    -- none of what is pushed is in a gap
    pub pushed-kept : filter (is_kept skips) (filter (in_range from to) (virtual t bytes)) ≡ filter (in_range from to) (virtual t bytes)
    pushed-kept =
        ap (filter (is_kept skips)) pushed-is
        ∙ filter-every (is_kept skips) (left_of t bytes end to)
        (every-kept (λ s. is_kept skips s ≡ true) (λ s. is_kept skips s ≡ true) (λ s. stands_before s.point to) (λ s h e. h) (rest_at t bytes end) (kept-past end place skips are))
        ∙ sym pushed-is

    pub pushed-skips : AllByRecursion (IsSkip t bytes to) skips
    pushed-skips = skips-upto skips end to are end-upto

resumed-at_first : (skips : List Point) (p : Point) → p.column ≡ 1 → resumed skips p ≡ unwrap_or (skip_of skips p.line) p
resumed-at_first skips p e = let g : (p.column == 1) ≡ true = grind (arith, nat_tests) in rw g refl

module _ (t : ℕ) (bytes : List ℕ) (d : 0 < t) where
  -- places before the beginning of a line are in earlier lines
  module _ (e : Point) (at : IsPlace t bytes e) (first : e.column ≡ 1) where
    -- a virtual byte before a place is in an earlier line
    abbrev Earlier : Point → Seat → Type 0
    Earlier after_previous s = stands_before s.point after_previous ≡ true → s.point.line < e.line

    read-earlier : (start after_previous : Point) → is_upto t bytes after_previous e ≡ true → AllByRecursion (λ s. s.point.line < e.line) (filter (in_range start after_previous) (virtual t bytes))
    read-earlier start after_previous upto =
        let p = point 1 1 0 0 in
        let seats : AllByRecursion (Earlier e) (virtual t bytes) = subst (AllByRecursion (Earlier e)) (sym at.splits) (every-append (Earlier e) at.before (rest_at t bytes e)
        (every-map (LiesIn p (end_after p at.before)) (Earlier e)
        (λ s h k. elim (lies-later s.point e (lies-shown bytes s.point e ∙ ap (lies_before s.point) at.stands ∙ h.1)) [ inl l ↦ l | inr l ↦ absurd (omega (arith, l.1, h.2)) ])
        at.before (chain-between t bytes p at.before (rest_at t bytes e) (subst (IsChain t bytes p) at.splits (whole-chain t bytes d))))
        (every-map (λ s. stands_before s.point e ≡ false) (Earlier e) (λ s h k. absurd (cc)) (rest_at t bytes e) (rest-later t bytes e))) in
        every-kept (Earlier after_previous) (λ s. s.point.line < e.line) (in_range start after_previous)
        (λ s h k. h ((and_parts (not (stands_before s.point start)) (stands_before s.point after_previous) k).1)) (virtual t bytes)
        (every-both (Leads after_previous e) (Earlier e) (Earlier after_previous) (λ s h k l. k (h l)) (virtual t bytes) (upto-leads t bytes after_previous e upto) seats)

    -- a place that is not after the beginning of a line is in an earlier line, or denotes the same
    pub after_previous-earlier : (after_previous : Point) → IsPlace t bytes after_previous → is_upto t bytes after_previous e ≡ true
        → (after_previous.line < e.line) ⊎ ((after_previous.line ≡ e.line) × (after_previous.column ≡ 1) × (denotes_same t bytes after_previous e ≡ true))
    after_previous-earlier after_previous place upto = elim (places-rise t bytes d after_previous e place at upto) [
      | inl h ↦ (let s = same-shown t bytes after_previous e place at h in inr (sym (shown-line bytes after_previous) ∙ ap (λ (x : Point). x.line) s ∙ shown-line bytes e, same-column t bytes d after_previous e place at h ∙ first, h))
      | inr (inl h) ↦ inl h
      | inr (inr h) ↦ (let c = h.1 in let b = place.bounds.first in absurd (omega arith))
    ]

    -- gaps that end up to there are in earlier lines
    pub skips-earlier : (skips : List Point) → AllByRecursion (IsSkip t bytes e) skips → AllByRecursion (λ (p : Point). p.line < e.line) skips
    skips-earlier skips are = every-map (IsSkip t bytes e) (λ (p : Point). p.line < e.line)
        (λ p h. elim (after_previous-earlier p h.place h.upto) [
          | inl l ↦ l
          | inr r ↦ (let a = h.inside in let b = r.1 in absurd (omega arith))
        ]) skips are

  -- a gap is added, from the beginning of the line where the text ends
  module _ (skips : List Point) (start e q : Point) (are : AllByRecursion (IsSkip t bytes e) skips) (at : IsPlace t bytes e) (to : IsPlace t bytes q)
      (first : e.column ≡ 1) (line : q.line ≡ e.line) (before : stands_before e q ≡ true) (other : denotes_same t bytes q e ≡ false) where
    added-upto : is_upto t bytes e q ≡ true
    added-upto = upto-order t bytes e q (after-before e.index e.vs q.index q.vs before)

    -- the line had no gap
    pub added-none : skip_of skips e.line ≡ None
    added-none = elim (skip_of skips e.line) as (λ o. skip_of skips e.line ≡ o → o ≡ None) [
      | None ↦ λ h. refl
      | Some p ↦ λ h. (
          let (line_is, skip) = skip-is (IsSkip t bytes e) skips e.line p are h in
          absurd (omega (arith, skip.inside, column-rises t bytes d p e skip.place at skip.upto line_is))
          )
    ] refl

    pub added-skips : AllByRecursion (IsSkip t bytes q) (skips ++ q ∷ [])
    added-skips =
        let inside : 1 < q.column = elim (places-rise t bytes d e q at to added-upto) [
          | inl h ↦ absurd (let f = same-back t bytes e q h in cc)
          | inr (inl h) ↦ absurd (omega arith)
          | inr (inr h) ↦ omega (arith, h.1)
        ] in
        every-append (IsSkip t bytes q) skips (q ∷ []) (skips-upto t bytes d skips e q are added-upto) (record { place = to; inside = inside; upto = upto-self t bytes q }, tt)

    added-there : (k : ℕ) → k ≡ e.line → skip_of (skips ++ q ∷ []) k ≡ Some q
    added-there k h =
        let there : (q.line == k) ≡ true = grind (arith, nat_tests) in
        let none = ap (skip_of skips) h ∙ added-none in
        find-append (λ (p : Point). p.line == k) skips (q ∷ []) ∙ rw (none, there) refl

    added-earlier : (k : ℕ) → k < e.line → skip_of (skips ++ q ∷ []) k ≡ skip_of skips k
    added-earlier k h = found_push_other (λ ps. skip_of ps k) (λ (p : Point). p.line == k) Some None refl (λ x xs. refl) skips q (not-number q.line k (λ f. absurd (omega arith)))

    -- what was read keeps what it kept
    pub added-read : (after_previous : Point) → is_upto t bytes after_previous e ≡ true → kept_between t bytes (skips ++ q ∷ []) start after_previous ≡ kept_between t bytes skips start after_previous
    added-read after_previous upto =
        let read = filter (in_range start after_previous) (virtual t bytes) in
        filter-same (is_kept (skips ++ q ∷ [])) (is_kept skips) read
        (every-map (λ s. s.point.line < e.line) (λ s. is_kept (skips ++ q ∷ []) s ≡ is_kept skips s)
        (λ s h. ap (λ (o : Option Point). is_kept_by o s) (added-earlier s.point.line h)) read (read-earlier e at first start after_previous upto))

    -- the gap has nothing that is kept
    pub added-text : is_upto t bytes start e ≡ true → kept_between t bytes (skips ++ q ∷ []) start q ≡ kept_between t bytes skips start e
    added-text from = jump-same t bytes d (skips ++ q ∷ []) e at start q from to line (added-there e.line refl) added-upto ∙ added-read e (upto-self t bytes e)

    -- a place that is not after where the text ended
    module _ (after_previous : Point) (place : IsPlace t bytes after_previous) (upto : is_upto t bytes after_previous e ≡ true) where
      pub added-outside : IsOutside skips after_previous → IsOutside (skips ++ q ∷ []) after_previous
      added-outside outside p h = elim (after_previous-earlier e at first after_previous place upto) [
        | inl l ↦ outside p (sym (added-earlier after_previous.line l) ∙ h)
        | inr l ↦ inl l.1
      ]

      -- the next byte is looked for where it was, or after the gap
      pub added-resumed : (resumed (skips ++ q ∷ []) after_previous ≡ resumed skips after_previous) ⊎ ((denotes_same t bytes after_previous e ≡ true) × (resumed skips after_previous ≡ after_previous) × (resumed (skips ++ q ∷ []) after_previous ≡ q))
      added-resumed = elim (after_previous-earlier e at first after_previous place upto) [
        | inl l ↦ inl (ap (λ (o : Option Point). cond (after_previous.column == 1) (unwrap_or o after_previous) after_previous) (added-earlier after_previous.line l))
        | inr l ↦ inr (
          l.2,
          resumed-at_first skips after_previous l.1 ∙ ap (λ (o : Option Point). unwrap_or o after_previous) (ap (skip_of skips) l.0 ∙ added-none),
          resumed-at_first (skips ++ q ∷ []) after_previous l.1 ∙ ap (λ (o : Option Point). unwrap_or o after_previous) (added-there after_previous.line l.0),
        )
      ]

      pub added-shown : stands_before (shown bytes (resumed (skips ++ q ∷ []) after_previous)) (shown bytes (resumed skips after_previous)) ≡ false
      added-shown = elim added-resumed [
        | inl r ↦ (let p = shown bytes (resumed skips after_previous) in ap (λ (x : Point). stands_before (shown bytes x) p) r ∙ before-self p.index p.vs)
        | inr r ↦ ap (λ (x : Point). stands_before (shown bytes x) (shown bytes (resumed skips after_previous))) r.2 ∙ ap (λ (x : Point). stands_before (shown bytes q) (shown bytes x)) r.1
            ∙ upto-shown t bytes d after_previous q place to (upto-upto t bytes after_previous e q upto added-upto)
      ]

  -- whether a place denotes the same as an earlier one, by where it is shown
  pub same-not_before : (p e : Point) → IsPlace t bytes p → IsPlace t bytes e → denotes_same t bytes p e ≡ true → stands_before e (shown bytes p) ≡ false
  same-not_before p e a b h = ap (stands_before e) (same-shown t bytes p e a b h) ∙ shown-upto t bytes e

  pub other-before : (p e : Point) → IsPlace t bytes p → IsPlace t bytes e → stands_before e p ≡ true → denotes_same t bytes p e ≡ false → stands_before e (shown bytes p) ≡ true
  other-before p e a b before other = cases (upto-order t bytes e p (after-before e.index e.vs p.index p.vs before)) (left_of t bytes e p) refl
    where
      cases : is_upto t bytes e p ≡ true → (mid : List Seat) → left_of t bytes e p ≡ mid → stands_before e (shown bytes p) ≡ true
      cases upto [] h = let f = same-back t bytes e p (way-none t bytes d e p b a upto h) in absurd (cc)
      cases upto (s ∷ ss) h =
          let c = subst (λ (xs : List Seat). IsChain t bytes (shown bytes e) (xs ++ rest_at t bytes p)) h (way-chain t bytes d e p b a upto) in
          let after = λ (r : Seat). stands_before r.point e ≡ false in
          let later = subst (AllByRecursion after) h (every-kept after after (λ r. stands_before r.point p) (λ r k l. k) (rest_at t bytes e) (rest-later t bytes e)) in
          let q = end_after s.end ss in
          let passes = upto-before e.index e.vs s.point.index s.point.vs s.end.index s.end.vs later.0 c.1.ends in
          ap (stands_before e) (way-ends t bytes d e p b a upto ∙ ap (end_after (shown bytes e)) h)
          ∙ before-upto e.index e.vs s.end.index s.end.vs q.index q.vs passes (chain-upto t bytes s.end ss (rest_at t bytes p) c.2)
