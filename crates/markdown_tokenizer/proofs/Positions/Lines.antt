-- Places in lines and columns, and the virtual bytes between two places.
use Rattle.markdown_tokenizer.proofs.Prelude.{AllByRecursion, ◌≡◌, ℕ, suc, ◌≤◌, ◌<◌, ◌==◌, List, [], ◌∷◌, ◌++◌, Bool, true, false, refl, sym, ap, ◌∙◌, subst, arith, append_assoc, cases_lt, ◌⊎◌, inl, inr, filter, nat_lt, ◌&&◌, ◌||◌, nat_tests, filter-append, append-nil, append_cancel_left, Point, Seat, point, virtual, end_after, stands_before, shown, is_upto, denotes_same, every-map, end-after-append, rest_at, IsPlace, goes_on, end_at}
use Rattle.markdown_tokenizer.proofs.Positions.Order.{later-later, before-self, before-upto, after-before, below-before, more-before, every-both, filter-every}
use Rattle.markdown_tokenizer.proofs.Positions.Chains.{Begins, IsChain, whole-chain}
use Rattle.markdown_tokenizer.proofs.Positions.Standing.{chain-split, chain-upto}
use Rattle.markdown_tokenizer.proofs.Positions.Cursors.{upto-same, rest-upto, left_of, Leads, upto-leads, split-every, place-before}
use Rattle.markdown_tokenizer.proofs.Positions.Points.{shown-line, shown-column}

-- by line, then by column, one place is before another
abbrev pub lies_before : Point → Point → Bool
lies_before p q = nat_lt p.line q.line || ((p.line == q.line) && nat_lt p.column q.column)

-- a virtual byte ends at a later column of its line, or in the next line
end_at-lies : (t byte : ℕ) (p : Point) (b c : Bool) → (byte == 10) ≡ b → goes_on t byte p ≡ c → lies_before p (end_at t byte p) ≡ true
end_at-lies t byte p true c e f = rw e (below-before p.line p.column (suc p.line) 1 (omega arith))
end_at-lies t byte p false true e f = rw (e, f) (more-before p.line p.column)
end_at-lies t byte p false false e f = rw (e, f) (more-before p.line p.column)

lies-like : (p q r : Point) → p.line ≡ q.line → p.column ≡ q.column → lies_before p r ≡ lies_before q r
lies-like p q r e f = rw (e, f) refl

-- a place lies where it is shown
pub lies-shown : (bytes : List ℕ) (r p : Point) → lies_before r p ≡ lies_before r (shown bytes p)
lies-shown bytes r p = rw (shown-line bytes p, shown-column bytes p) refl

-- in a later line, or in a later column of the line
pub lies-later : (p q : Point) → lies_before p q ≡ true → (p.line < q.line) ⊎ ((p.line ≡ q.line) × (p.column < q.column))
lies-later p q h = elim (cases_lt p.line q.line) [ inl l ↦ inl l | inr g ↦ inr (grind (arith, nat_tests), grind (arith, nat_tests)) ]

lies-in-numbers : (i j k l m n : ℕ) → (nat_lt k i || ((k == i) && nat_lt l j)) ≡ false → (nat_lt k m || ((k == m) && nat_lt l n)) ≡ true → (i ≤ k) × (k ≤ m) × (k ≡ i → j ≤ l)
lies-in-numbers i j k l m n h g = (grind (arith, nat_tests), grind (arith, nat_tests), λ e. grind (arith, nat_tests))

-- a virtual byte lies between two places, in a column from 1 on
abbrev pub LiesIn : Point → Point → Seat → Type 0
LiesIn p q s = (lies_before s.point p ≡ false) × (lies_before s.point q ≡ true) × (1 ≤ s.point.column)

-- so its line is between theirs
abbrev pub StandsBetween : Point → Point → Seat → Type 0
StandsBetween p q s = (p.line ≤ s.point.line) × (s.point.line ≤ q.line) × (s.point.line ≡ p.line → p.column ≤ s.point.column)

module _ (t : ℕ) (bytes : List ℕ) where
  pub begins-at : (p : Point) (s : Seat) (rest : List Seat) → Begins t bytes p s rest → (s.point.line ≡ p.line) × (s.point.column ≡ p.column)
  begins-at p s rest b = (sym (shown-line bytes s.point) ∙ ap (λ (x : Point). x.line) b.shown_is, sym (shown-column bytes s.point) ∙ ap (λ (x : Point). x.column) b.shown_is)

  begins-lies : (p : Point) (s : Seat) (rest : List Seat) → Begins t bytes p s rest → lies_before p s.end ≡ true
  begins-lies p s rest b =
      let (line, column) = begins-at p s rest b in
      sym (lies-like s.point p s.end line column)
      ∙ sym (ap (lies_before s.point) b.end_is) ∙ end_at-lies t s.byte s.point (s.byte == 10) (goes_on t s.byte s.point) refl refl

  chain-rises : (p : Point) (xs ys : List Seat) → IsChain t bytes p (xs ++ ys) → lies_before (end_after p xs) p ≡ false
  chain-rises p [] ys c = before-self p.line p.column
  chain-rises p (s ∷ ss) ys c =
      let q = end_after s.end ss in
      later-later q.line q.column s.end.line s.end.column p.line p.column (chain-rises s.end ss ys c.2)
      (after-before p.line p.column s.end.line s.end.column (begins-lies p s (ss ++ ys) c.1))

  chain-passes : (p : Point) (s : Seat) (ss ys : List Seat) → IsChain t bytes p (s ∷ ss ++ ys) → lies_before p (end_after s.end ss) ≡ true
  chain-passes p s ss ys c =
      let q = end_after s.end ss in
      before-upto p.line p.column s.end.line s.end.column q.line q.column (begins-lies p s (ss ++ ys) c.1) (chain-rises s.end ss ys c.2)

  pub chain-between : (p : Point) (xs ys : List Seat) → IsChain t bytes p (xs ++ ys) → AllByRecursion (LiesIn p (end_after p xs)) xs
  chain-between p [] ys c = tt
  chain-between p (s ∷ ss) ys c =
      let q = end_after s.end ss in
      let (line, column) = begins-at p s (ss ++ ys) c.1 in
      let upto = after-before p.line p.column s.end.line s.end.column (begins-lies p s (ss ++ ys) c.1) in (
        (rw (line, column) (before-self p.line p.column), lies-like s.point p q line column ∙ chain-passes p s ss ys c, c.1.seat_bounds.first),
        every-map (LiesIn s.end q) (LiesIn p q)
            (λ r h. (later-later r.point.line r.point.column s.end.line s.end.column p.line p.column h.0 upto, h.1, h.2)) ss (chain-between s.end ss ys c.2),
      )

  -- the virtual bytes between a place and a second one, which is not before the first
  module _ (d : 0 < t) (a b : Point) (first : IsPlace t bytes a) (second : IsPlace t bytes b) (upto : is_upto t bytes a b ≡ true) where
    before-grows : second.before ≡ first.before ++ left_of t bytes a b
    before-grows =
        let f = λ (s : Seat). stands_before s.point b in
        let leads = split-every t bytes (Leads a b) a first (upto-leads t bytes a b upto) in
        sym (place-before t bytes b second) ∙ ap (filter f) first.splits ∙ filter-append f first.before (rest_at t bytes a)
        ∙ ap (λ (xs : List Seat). xs ++ left_of t bytes a b) (filter-every f first.before (every-both (λ s. stands_before s.point a ≡ true) (Leads a b) (λ s. f s ≡ true) (λ s h k. k h) first.before first.behind leads.0))

    way-splits : virtual t bytes ≡ first.before ++ (left_of t bytes a b ++ rest_at t bytes b)
    way-splits = second.splits ∙ ap (λ (xs : List Seat). xs ++ rest_at t bytes b) before-grows ∙ append_assoc first.before (left_of t bytes a b) (rest_at t bytes b)

    pub way-rest : rest_at t bytes a ≡ left_of t bytes a b ++ rest_at t bytes b
    way-rest = append_cancel_left first.before (rest_at t bytes a) (left_of t bytes a b ++ rest_at t bytes b) (sym first.splits ∙ way-splits)

    pub way-chain : IsChain t bytes (shown bytes a) (left_of t bytes a b ++ rest_at t bytes b)
    way-chain =
        let c = chain-split t bytes (point 1 1 0 0) first.before (left_of t bytes a b ++ rest_at t bytes b) (subst (IsChain t bytes (point 1 1 0 0)) way-splits (whole-chain t bytes d)) in
        subst (λ (p : Point). IsChain t bytes p (left_of t bytes a b ++ rest_at t bytes b)) (sym first.stands) c

    pub way-ends : shown bytes b ≡ end_after (shown bytes a) (left_of t bytes a b)
    way-ends =
        second.stands ∙ ap (end_after (point 1 1 0 0)) before-grows ∙ end-after-append (point 1 1 0 0) first.before (left_of t bytes a b)
        ∙ ap (λ (p : Point). end_after p (left_of t bytes a b)) (sym first.stands)

    pub way-none : left_of t bytes a b ≡ [] → denotes_same t bytes a b ≡ true
    way-none e =
        let same : second.before ≡ first.before = before-grows ∙ ap (λ (xs : List Seat). first.before ++ xs) e ∙ append-nil first.before in
        let rest : rest_at t bytes b ≡ rest_at t bytes a = append_cancel_left first.before (rest_at t bytes b) (rest_at t bytes a)
        (ap (λ (xs : List Seat). xs ++ rest_at t bytes b) (sym same) ∙ sym second.splits ∙ first.splits) in
        upto-same t bytes a b upto (rest-upto t bytes a b first rest)

    -- it is not shown before the first
    pub upto-shown : stands_before (shown bytes b) (shown bytes a) ≡ false
    upto-shown = ap (λ (p : Point). stands_before p (shown bytes a)) way-ends ∙ chain-upto t bytes (shown bytes a) (left_of t bytes a b) (rest_at t bytes b) way-chain

    -- it denotes the same, or its line is later, or its column is in the same line
    pub places-rise : (denotes_same t bytes a b ≡ true) ⊎ ((a.line < b.line) ⊎ ((a.line ≡ b.line) × (a.column < b.column)))
    places-rise = cases (left_of t bytes a b) refl
      where
        cases : (mid : List Seat) → left_of t bytes a b ≡ mid → (denotes_same t bytes a b ≡ true) ⊎ ((a.line < b.line) ⊎ ((a.line ≡ b.line) × (a.column < b.column)))
        cases [] e = inl (way-none e)
        cases (s ∷ ss) e =
            let c = subst (λ (xs : List Seat). IsChain t bytes (shown bytes a) (xs ++ rest_at t bytes b)) e way-chain in
            let ends : shown bytes b ≡ end_after s.end ss = way-ends ∙ ap (end_after (shown bytes a)) e in
            inr (lies-later a b (lies-like a (shown bytes a) b (sym (shown-line bytes a)) (sym (shown-column bytes a)) ∙ lies-shown bytes (shown bytes a) b
            ∙ ap (lies_before (shown bytes a)) ends ∙ chain-passes (shown bytes a) s ss (rest_at t bytes b) c))

    -- the places between the two are in lines between theirs
    pub seats-between : AllByRecursion (StandsBetween a b) (left_of t bytes a b)
    seats-between =
        let p = shown bytes a in
        let q = end_after p (left_of t bytes a b) in
        every-map (LiesIn p q) (StandsBetween a b)
        (λ s h. lies-in-numbers a.line a.column s.point.line s.point.column b.line b.column (lies-shown bytes s.point a ∙ h.0) (lies-shown bytes s.point b ∙ ap (lies_before s.point) way-ends ∙ h.1))
        (left_of t bytes a b) (chain-between p (left_of t bytes a b) (rest_at t bytes b) way-chain)
