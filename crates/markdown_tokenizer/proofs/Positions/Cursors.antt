-- Laws of the cursor: what was read and what is left, with the order of places up to CR and LF of one CR LF.
use Rattle.markdown_tokenizer.proofs.Prelude.{AllByRecursion, ◌≡◌, ℕ, ◌<◌, List, [], ◌∷◌, ◌++◌, Bool, true, false, length, refl, sym, ap, ◌∙◌, subst, filter, get_or, slice_get, not, ◌&&◌, ◌||◌, list_all, filter-append, append-nil, and_parts, Point, Seat, virtual, stands_before, is_upto, denotes_same, every-map, every-append, filter-none, or-leads, leads-back, rest_at, IsPlace, IsSeatAt, in_range}
use Rattle.std.proofs.lemmas.Bool.{and_right}
use Rattle.std.proofs.lemmas.Bool.Decides.{same_from_decides}
use Rattle.std.proofs.lemmas.List.Elements.{All-from_recursion, recursion_from_All}
use Rattle.std.proofs.lemmas.List.Recursion.{and_at, and_from_places}
use Rattle.markdown_tokenizer.proofs.Positions.Order.{before-self, before-upto, every-both, every-front, every-back, every-all, filter-every, filter-same}
use Rattle.markdown_tokenizer.proofs.Positions.Seats.{rest-later}
use Rattle.markdown_tokenizer.proofs.Positions.Standing.{seat-splits, next-begins, seat-rest, seat-passes}

pub get-after : {A : Type 0} (xs ys : List A) → slice_get (xs ++ ys) (length xs) ≡ slice_get ys 0
get-after [] ys = refl
get-after (x ∷ xs) ys = get-after xs ys

-- a seat before the one place is before the other
abbrev pub Leads : Point → Point → Seat → Type 0
Leads p q s = stands_before s.point p ≡ true → stands_before s.point q ≡ true

module _ (t : ℕ) (bytes : List ℕ) where
  pub upto-leads : (p q : Point) → is_upto t bytes p q ≡ true → AllByRecursion (Leads p q) (virtual t bytes)
  upto-leads p q h =
      let f = λ (s : Seat). not (stands_before s.point p) || stands_before s.point q in
      let there = λ (k : ℕ) (d : Seat). (get_or (virtual t bytes) k d).point in
      recursion_from_All (Leads p q) (virtual t bytes) (λ k d l. or-leads (stands_before (there k d) p) (stands_before (there k d) q)
      (and_at (list_all f) f refl (λ x xs. refl) (virtual t bytes) k d l h))

  pub leads-upto : (p q : Point) → AllByRecursion (Leads p q) (virtual t bytes) → is_upto t bytes p q ≡ true
  leads-upto p q h =
      let f = λ (s : Seat). not (stands_before s.point p) || stands_before s.point q in
      let d : Seat = record { byte = 0; point = p; end = p } in
      let there = λ (k : ℕ). (get_or (virtual t bytes) k d).point in
      and_from_places (list_all f) f refl (λ x xs. refl) (virtual t bytes) d
      (λ k l. (elim (stands_before (there k) p) as (λ a. (a ≡ true → stands_before (there k) q ≡ true) → (not a || stands_before (there k) q) ≡ true) [ true ↦ λ g. g refl | false ↦ λ g. refl ])
      (All-from_recursion (Leads p q) (virtual t bytes) h k d l))

  -- what is not before a place is not before it in the virtual text
  pub upto-order : (p q : Point) → stands_before q p ≡ false → is_upto t bytes p q ≡ true
  upto-order p q h = leads-upto p q (every-all (Leads p q) (λ s k. before-upto s.point.index s.point.vs p.index p.vs q.index q.vs k h) (virtual t bytes))

  pub upto-self : (p : Point) → is_upto t bytes p p ≡ true
  upto-self p = upto-order p p (before-self p.index p.vs)

  pub upto-upto : (p q r : Point) → is_upto t bytes p q ≡ true → is_upto t bytes q r ≡ true → is_upto t bytes p r ≡ true
  upto-upto p q r h k = leads-upto p r (every-both (Leads p q) (Leads q r) (Leads p r) (λ s a b c. b (a c)) (virtual t bytes) (upto-leads p q h) (upto-leads q r k))

  pub same-upto : (p q : Point) → denotes_same t bytes p q ≡ true → (is_upto t bytes p q ≡ true) × (is_upto t bytes q p ≡ true)
  same-upto p q h = and_parts (is_upto t bytes p q) (is_upto t bytes q p) h

  pub upto-same : (p q : Point) → is_upto t bytes p q ≡ true → is_upto t bytes q p ≡ true → denotes_same t bytes p q ≡ true
  upto-same p q h k = rw h k

  pub same-self : (p : Point) → denotes_same t bytes p p ≡ true
  same-self p = upto-same p p (upto-self p) (upto-self p)

  pub same-back : (p q : Point) → denotes_same t bytes p q ≡ true → denotes_same t bytes q p ≡ true
  same-back p q h = let b = same-upto p q h in upto-same q p b.1 b.0

  pub same-same : (p q r : Point) → denotes_same t bytes p q ≡ true → denotes_same t bytes q r ≡ true → denotes_same t bytes p r ≡ true
  same-same p q r h k = let a = same-upto p q h in let b = same-upto q r k in upto-same p r (upto-upto p q r a.0 b.0) (upto-upto r q p b.1 a.1)

  -- places that denote the same are before and after the same virtual bytes
  pub same-before : (p q : Point) → denotes_same t bytes p q ≡ true → AllByRecursion (λ s. stands_before s.point p ≡ stands_before s.point q) (virtual t bytes)
  same-before p q h =
      let b = same-upto p q h in
      every-both (Leads p q) (Leads q p) (λ s. stands_before s.point p ≡ stands_before s.point q)
      (λ s a c. same_from_decides {P = stands_before s.point q ≡ true} (stands_before s.point p) (stands_before s.point q) (a, c) ((λ e. e), λ e. e)) (virtual t bytes) (upto-leads p q b.0) (upto-leads q p b.1)

  -- a range depends on its ends only by what they denote
  pub range-same : (a b c d : Point) → denotes_same t bytes a c ≡ true → denotes_same t bytes b d ≡ true → filter (in_range a b) (virtual t bytes) ≡ filter (in_range c d) (virtual t bytes)
  range-same a b c d h k = filter-same (in_range a b) (in_range c d) (virtual t bytes)
      (every-both (λ s. stands_before s.point a ≡ stands_before s.point c) (λ s. stands_before s.point b ≡ stands_before s.point d) (λ s. in_range a b s ≡ in_range c d s) (λ s e f. rw (e, f) refl) (virtual t bytes) (same-before a c h) (same-before b d k))

  -- what a place has behind it, by its order
  pub place-before : (p : Point) (place : IsPlace t bytes p) → filter (λ s. stands_before s.point p) (virtual t bytes) ≡ place.before
  place-before p place =
      let f = λ (s : Seat). stands_before s.point p in
      ap (filter f) place.splits ∙ filter-append f place.before (rest_at t bytes p) ∙ ap (λ (ys : List Seat). filter f place.before ++ ys) (filter-none f (rest_at t bytes p) (rest-later t bytes p))
      ∙ append-nil (filter f place.before) ∙ filter-every f place.before place.behind

  pub same-behind : (p q : Point) (a : IsPlace t bytes p) (b : IsPlace t bytes q) → denotes_same t bytes p q ≡ true → a.before ≡ b.before
  same-behind p q a b h = sym (place-before p a) ∙ filter-same (λ (s : Seat). stands_before s.point p) (λ (s : Seat). stands_before s.point q) (virtual t bytes) (same-before p q h) ∙ place-before q b

  -- places with the same rest denote the same
  pub rest-upto : (p q : Point) → IsPlace t bytes p → rest_at t bytes q ≡ rest_at t bytes p → is_upto t bytes q p ≡ true
  rest-upto p q place e = leads-upto q p (subst (AllByRecursion (Leads q p)) (sym place.splits) (every-append (Leads q p) place.before (rest_at t bytes p)
      (every-map (λ s. stands_before s.point p ≡ true) (Leads q p) (λ s h k. h) place.before place.behind)
      (subst (AllByRecursion (Leads q p)) e (every-map (λ s. stands_before s.point q ≡ false) (Leads q p) (λ s h k. absurd (cc)) (rest_at t bytes q) (rest-later t bytes q)))))

  -- if nothing is left at a place, no place is after it
  pub rest-none : (p q : Point) → IsPlace t bytes p → rest_at t bytes p ≡ [] → is_upto t bytes q p ≡ true
  rest-none p q place e = leads-upto q p (subst (AllByRecursion (Leads q p)) (sym (place.splits ∙ ap (λ (ys : List Seat). place.before ++ ys) e ∙ append-nil place.before))
      (every-map (λ s. stands_before s.point p ≡ true) (Leads q p) (λ s h k. h) place.before place.behind))

  -- what a place and an end leave of the rest
  abbrev pub left_of : Point → Point → List Seat
  left_of p end = filter (λ s. stands_before s.point end) (rest_at t bytes p)

  pub split-every : (P : Seat → Type 0) (p : Point) (place : IsPlace t bytes p) → AllByRecursion P (virtual t bytes) → AllByRecursion P place.before × AllByRecursion P (rest_at t bytes p)
  split-every P p place h = let k = subst (AllByRecursion P) place.splits h in (every-front P place.before (rest_at t bytes p) k, every-back P place.before (rest_at t bytes p) k)

  -- the text is what was read and what is left
  pub text-splits : (start p end : Point) → IsPlace t bytes p → is_upto t bytes start p ≡ true → is_upto t bytes p end ≡ true
      → filter (in_range start end) (virtual t bytes) ≡ filter (in_range start p) (virtual t bytes) ++ left_of p end
  text-splits start p end place from upto =
      let whole = place.splits in
      let f = in_range start end in let g = in_range start p in
      let rest = rest_at t bytes p in
      let starts = split-every (Leads start p) p place (upto-leads start p from) in
      let ends = split-every (Leads p end) p place (upto-leads p end upto) in
      let front : filter f place.before ≡ filter g place.before = filter-same f g place.before
      (every-both (λ s. stands_before s.point p ≡ true) (Leads p end) (λ s. f s ≡ g s)
      (λ s h k. ap (λ (b : Bool). not (stands_before s.point start) && b) (k h ∙ sym h)) place.before place.behind ends.0) in
      let none : filter g rest ≡ [] = filter-none g rest
      (every-map (λ s. stands_before s.point p ≡ false) (λ s. g s ≡ false) (λ s h. and_right (not (stands_before s.point start)) (stands_before s.point p) h) rest (rest-later t bytes p)) in
      let back : filter f rest ≡ left_of p end = filter-same f (λ s. stands_before s.point end) rest
      (every-both (λ s. stands_before s.point p ≡ false) (Leads start p) (λ s. f s ≡ stands_before s.point end)
      (λ s h k. let e : stands_before s.point start ≡ false = leads-back (stands_before s.point start) (stands_before s.point p) k h in rw e refl) rest (rest-later t bytes p) starts.1) in
      let read : filter g (virtual t bytes) ≡ filter g place.before = ap (filter g) whole ∙ filter-append g place.before rest ∙ ap (λ (ys : List Seat). filter g place.before ++ ys) none ∙ append-nil (filter g place.before) in
      ap (filter f) whole ∙ filter-append f place.before rest ∙ ap (λ (xs : List Seat). xs ++ filter f rest) front
      ∙ ap (λ (ys : List Seat). filter g place.before ++ ys) back ∙ ap (λ (xs : List Seat). xs ++ left_of p end) (sym read)

  -- no virtual byte is between a place and itself
  pub range-empty : (p : Point) → filter (in_range p p) (virtual t bytes) ≡ []
  range-empty p = filter-none (in_range p p) (virtual t bytes)
      (every-all (λ s. in_range p p s ≡ false) (λ s. elim (stands_before s.point p) as (λ b. (not b && b) ≡ false) [ true ↦ refl | false ↦ refl ]) (virtual t bytes))

  -- the end moves on
  pub range-extended : (start end to : Point) → IsPlace t bytes end → is_upto t bytes start end ≡ true → is_upto t bytes end to ≡ true
      → filter (in_range start to) (virtual t bytes) ≡ filter (in_range start end) (virtual t bytes) ++ filter (in_range end to) (virtual t bytes)
  range-extended start end to place h k =
      let first = text-splits start end to place h k in
      let second = text-splits end end to place (upto-self end) k in
      first ∙ ap (λ (ys : List Seat). filter (in_range start end) (virtual t bytes) ++ ys) (sym (second ∙ ap (λ (xs : List Seat). xs ++ left_of end to) (range-empty end)))

  -- also where the added range begins at a place that denotes the same as the end
  pub range-continued : (start end from to : Point) → IsPlace t bytes end → is_upto t bytes start end ≡ true → is_upto t bytes end to ≡ true → denotes_same t bytes end from ≡ true
      → filter (in_range start to) (virtual t bytes) ≡ filter (in_range start end) (virtual t bytes) ++ filter (in_range from to) (virtual t bytes)
  range-continued start end from to place h k e =
      range-extended start end to place h k ∙ ap (λ (ys : List Seat). filter (in_range start end) (virtual t bytes) ++ ys) (range-same end to from to e (same-self to))

-- the next virtual byte
module _ (t : ℕ) (bytes : List ℕ) (p : Point) (seat : Seat) (place : IsPlace t bytes p) (n : IsSeatAt t bytes p seat) where
  -- its seat denotes the same as the place
  pub seat-upto : is_upto t bytes seat.point p ≡ true
  seat-upto = rest-upto t bytes p seat.point place n.same

  -- an end that its seat is not before is not after the place
  pub end-upto : (end : Point) → stands_before seat.point end ≡ false → is_upto t bytes end p ≡ true
  end-upto end lt = upto-upto t bytes end seat.point p (upto-order t bytes end seat.point lt) seat-upto

  module _ (d : 0 < t) where
    -- the place after it is no further than the end
    pub after-upto : (end : Point) → is_upto t bytes p end ≡ true → stands_before seat.point end ≡ true → is_upto t bytes seat.end end ≡ true
    after-upto end upto lt =
        let ends = split-every t bytes (Leads p end) p place (upto-leads t bytes p end upto) in
        let past : AllByRecursion (λ s. stands_before s.point seat.end ≡ false) n.after = subst (AllByRecursion (λ s. stands_before s.point seat.end ≡ false)) (seat-rest t bytes d p seat place n) (rest-later t bytes seat.end) in
        leads-upto t bytes seat.end end (subst (AllByRecursion (Leads seat.end end)) (sym (seat-splits t bytes d p seat place n)) (every-append (Leads seat.end end) place.before (seat ∷ n.after)
        (every-both (λ s. stands_before s.point p ≡ true) (Leads p end) (Leads seat.end end) (λ s h k m. k h) place.before place.behind ends.0)
        ((λ m. lt), every-map (λ s. stands_before s.point seat.end ≡ false) (Leads seat.end end) (λ s h k. absurd (cc)) n.after past)))

    pub upto-after : is_upto t bytes p seat.end ≡ true
    upto-after = upto-order t bytes p seat.end (seat-passes t bytes d p seat place n)

    -- it is the only one between the place and its end
    pub next-only : left_of t bytes p seat.end ≡ seat ∷ []
    next-only =
        let f = λ (s : Seat). stands_before s.point seat.end in
        let past : AllByRecursion (λ s. stands_before s.point seat.end ≡ false) n.after = subst (AllByRecursion (λ s. stands_before s.point seat.end ≡ false)) (seat-rest t bytes d p seat place n) (rest-later t bytes seat.end) in
        let ends = (next-begins t bytes d p seat place n).ends in
        ap (filter f) n.is ∙ (rw ends (ap (λ (ys : List Seat). seat ∷ ys) (filter-none f n.after past)))
