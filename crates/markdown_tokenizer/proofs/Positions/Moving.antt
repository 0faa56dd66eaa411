-- Places of a document are places of another one that is alike up to behind them, and the same virtual bytes are around them.
use Rattle.markdown_tokenizer.proofs.Prelude.{AllByRecursion, ◌≡◌, ◌+◌, ◌-◌, ◌<◌, ◌≤◌, ◌==◌, ◌&&◌, ◌||◌, ◌∙◌, ◌⊎◌, ℕ, zero, suc, List, [], ◌∷◌, ◌++◌, Bool, true, false, cond, Some, inl, inr, refl, sym, ap, arith, add-one, subst, take, drop, filter, nat_lt, slice_index, append_assoc, append-nil, filter-append, filter-none, eqb-true, and_parts, false_from_ne_true, nat_tests, every-append, every-map, Point, Seat, point, virtual, virtual_from, tab_width, in_tab, begins_with_lf, end_after, stands_before, shown, follows_cr, IsShown, is_upto, denotes_same, in_range, IsPointOf, point_at, IsPlace, IsSeatAt, rest_at, begins_pair}
use Rattle.std.proofs.lemmas.Bool.{and_right, cond_both}
use Rattle.std.proofs.lemmas.Bool.Decides.{same_from_decides}
use Rattle.markdown_base.specs.Virtual.{other_byte}
use Rattle.markdown_tokenizer.specs.Alike.{bytes_up_to, is_at_cr_lf}
use Rattle.markdown_tokenizer.proofs.Positions.Order.{after-before, before-self, below-before, later-later, not-before, every-both, every-front, every-back, every-cond}
use Rattle.markdown_tokenizer.proofs.Positions.Seats.{tab-index, virtual-index, rest-later, pair-is, seat-in-tab, stands-there}
use Rattle.markdown_tokenizer.proofs.Positions.Chains.{Begins}
use Rattle.markdown_tokenizer.proofs.Positions.Standing.{place-of-point, seat-begins}
use Rattle.markdown_tokenizer.proofs.Positions.SeatLaws.{after-is-point, seat-is-point}
use Rattle.markdown_tokenizer.proofs.Positions.Cursors.{Leads, upto-leads, leads-upto, upto-order, upto-same}
use Rattle.markdown_tokenizer.proofs.Positions.Points.{point_at-is, point_at-point, same-shown}
use Rattle.markdown_tokenizer.proofs.Positions.Prefixes.{IsCutWhole, cut-whole, same-byte, same-front, whole-test}

-- Two documents begin with the same virtual bytes, up to a place: what is before it is the same, and shown alike
pub record BeginAlike (t : ℕ) (one other : List ℕ) (p : Point) : Type 0 where
  pub front : List Seat
  pub rest : List Seat
  pub more : List Seat
  pub one_is : virtual t one ≡ front ++ rest
  pub other_is : virtual t other ≡ front ++ more
  pub behind : AllByRecursion (λ s. stands_before s.point p ≡ true) front
  pub rest_later : AllByRecursion (λ s. stands_before s.point p ≡ false) rest
  pub more_later : AllByRecursion (λ s. stands_before s.point p ≡ false) more
  pub stands : end_after (point 1 1 0 0) front ≡ p
  pub shows : (x : Point) → stands_before p x ≡ false → shown one x ≡ shown other x

-- some of a list is before a place, and all that is behind a part of it is not: so the part has the other one in front
front-split : (P Q : Seat → Type 0) → ((s : Seat) → P s → Q s → ⊥) → (before left front rest : List Seat) → before ++ left ≡ front ++ rest
    → AllByRecursion P before → AllByRecursion Q rest → (mid : List Seat) × (front ≡ before ++ mid) × (left ≡ mid ++ rest)
front-split P Q never [] left front rest e h k = (front, refl, e)
front-split P Q never (x ∷ xs) left [] rest e h k = absurd (never x h.0 (subst (AllByRecursion Q) (sym e) k).0)
front-split P Q never (x ∷ xs) left (y ∷ ys) rest e h k =
    let is : x ≡ y = cc in let on : xs ++ left ≡ ys ++ rest = cc in
    let r = front-split P Q never xs left ys rest on h.1 k in
    (r.0, ap (λ (zs : List Seat). y ∷ zs) r.1 ∙ ap (λ (z : Seat). z ∷ (xs ++ r.0)) (sym is), r.2)

-- a byte behind a CR is not the first
pub back-first : (bytes : List ℕ) (i : ℕ) → follows_cr bytes i ≡ true → 0 < i
back-first bytes zero h = absurd (cc)
back-first bytes (suc i) h = omega arith

-- where a place is shown, it is itself or the one before
is-shown-at : (bytes : List ℕ) (x p : Point) → shown bytes x ≡ p → stands_before p x ≡ false → x ≡ p
is-shown-at bytes x p e upto = tested ((slice_index bytes x.index == 10) && follows_cr bytes x.index) refl e
  where
    tested : (b : Bool) → ((slice_index bytes x.index == 10) && follows_cr bytes x.index) ≡ b → cond b (point x.line x.column (x.index - 1) x.vs) x ≡ p → x ≡ p
    tested false f h = h
    tested true f h =
        let first = back-first bytes x.index (and_parts (slice_index bytes x.index == 10) (follows_cr bytes x.index) f).1 in
        let less : stands_before (point x.line x.column (x.index - 1) x.vs) x ≡ true = below-before (x.index - 1) x.vs x.index x.vs (omega (arith, first)) in
        absurd (let no : true ≡ false = sym less ∙ ap (λ (q : Point). stands_before q x) h ∙ upto in cc)

-- the LF of a CR LF is shown at its CR
at-cr : (bytes : List ℕ) (x : Point) (s : Seat) → begins_pair bytes x.index ≡ true → s.point ≡ point x.line x.column (suc x.index) x.vs → shown bytes s.point ≡ x
at-cr bytes x s pair e =
    let is = pair-is bytes x.index pair in
    let lf : (slice_index bytes (suc x.index) == 10) ≡ true = ap (λ (i : ℕ). slice_index bytes i == 10) (sym (add-one x.index)) ∙ ap (λ (b : ℕ). b == 10) is.2 in
    let cr : (slice_index bytes x.index == 13) ≡ true = ap (λ (b : ℕ). b == 13) is.1 in
    let both : ((slice_index bytes (suc x.index) == 10) && follows_cr bytes (suc x.index)) ≡ true = ap (λ (w : Bool). w && (slice_index bytes x.index == 13)) lf ∙ cr in
    let back : suc x.index - 1 ≡ x.index = omega arith in
    ap (shown bytes) e ∙ ap (λ (w : Bool). cond w (point x.line x.column (suc x.index - 1) x.vs) (point x.line x.column (suc x.index) x.vs)) both
    ∙ ap (λ (i : ℕ). point x.line x.column i x.vs) back

pub first-same : (x y : Seat) (xs ys : List Seat) → x ∷ xs ≡ y ∷ ys → x ≡ y
first-same x y xs ys e = cc

tab-on : (index b : ℕ) (bs : List ℕ) (s : Seat) → suc index ≤ s.point.index → (0 < s.point.vs → (k : ℕ) → suc index + k ≡ s.point.index → slice_index bs k ≡ 9)
    → 0 < s.point.vs → (k : ℕ) → index + k ≡ s.point.index → slice_index (b ∷ bs) k ≡ 9
tab-on index b bs s from h some zero e = absurd (omega (arith, e, from))
tab-on index b bs s from h some (suc j) e = h some j (omega (arith, e))

tab-here : (b : ℕ) (bs : List ℕ) (index : ℕ) (s : Seat) → b ≡ 9 → s.point.index ≡ index → 0 < s.point.vs → (k : ℕ) → index + k ≡ s.point.index → slice_index (b ∷ bs) k ≡ 9
tab-here b bs index s is at some zero e = is
tab-here b bs index s is at some (suc j) e = absurd (omega (arith, e, at))

-- what begins after the bytes that a place needs is not before it
beyond-up-to : (p : Point) (i v : ℕ) → bytes_up_to p ≤ i → (nat_lt i p.index || ((i == p.index) && nat_lt v p.vs)) ≡ false
beyond-up-to p i v =
    elim (p.vs == 0) as (λ c. (p.vs == 0) ≡ c → cond c p.index (suc p.index) ≤ i → (nat_lt i p.index || ((i == p.index) && nat_lt v p.vs)) ≡ false) [
      | true ↦ λ e le. not-before i v p.index p.vs le (eqb-true p.vs 0 e)
      | false ↦ λ e le. after-before p.index p.vs i v (below-before p.index p.vs i v (omega (arith, le)))
    ] refl

-- no CR LF is cut behind the bytes that a place needs, if it is shown at itself, or is in a tab
cut-up-to : (bytes : List ℕ) (p : Point) → IsShown bytes p → ((p.vs == 0) ≡ false → slice_index bytes p.index ≡ 9) → IsCutWhole (bytes_up_to p) bytes
cut-up-to bytes p whole tab =
    elim (p.vs == 0) as (λ c. (p.vs == 0) ≡ c → IsCutWhole (cond c p.index (suc p.index)) bytes) [
      | true ↦ λ e. cut-whole bytes p (whole-test bytes p whole)
      | false ↦ λ e. λ k at cr. absurd (let is : k ≡ p.index = omega (arith, at) in let no : 13 ≡ 9 = sym cr ∙ ap (slice_index bytes) is ∙ tab e in omega (arith, no))
    ] refl

module _ (t : ℕ) (d : 0 < t) (one other : List ℕ) (p : Point) (b : BeginAlike t one other p) where
  -- a virtual byte that is not before the place is not before an earlier one
  not-earlier : (x : Point) → stands_before p x ≡ false → (s : Seat) → stands_before s.point p ≡ false → stands_before s.point x ≡ false
  not-earlier x upto s h = later-later s.point.index s.point.vs p.index p.vs x.index x.vs h upto

  -- the virtual bytes up to an earlier place are the same
  pub range-alike : (from to : Point) → stands_before p to ≡ false → filter (in_range from to) (virtual t other) ≡ filter (in_range from to) (virtual t one)
  range-alike from to upto =
      let f = in_range from to in
      let none = λ (xs : List Seat) (h : AllByRecursion (λ s. stands_before s.point p ≡ false) xs).
      filter-none f xs (every-map (λ s. stands_before s.point p ≡ false) (λ s. f s ≡ false) (λ s k. and_right _ _ (not-earlier to upto s k)) xs h) in
      ap (filter f) b.other_is ∙ filter-append f b.front b.more ∙ ap (λ (ys : List Seat). filter f b.front ++ ys) (none b.more b.more_later ∙ sym (none b.rest b.rest_later))
      ∙ sym (filter-append f b.front b.rest) ∙ ap (filter f) (sym b.one_is)

  -- a place is up to another in both
  pub upto-alike : (x y : Point) → stands_before p x ≡ false → is_upto t one x y ≡ true → is_upto t other x y ≡ true
  upto-alike x y upto h =
      let leads = subst (AllByRecursion (Leads x y)) b.one_is (upto-leads t one x y h) in
      leads-upto t other x y (subst (AllByRecursion (Leads x y)) (sym b.other_is) (every-append (Leads x y) b.front b.more (every-front (Leads x y) b.front b.rest leads)
      (every-map (λ s. stands_before s.point p ≡ false) (Leads x y) (λ s k before. absurd (let no : true ≡ false = sym before ∙ not-earlier x upto s k in cc)) b.more b.more_later)))

  -- Where an earlier place is: at the end of what is alike; or at a virtual byte that is before it in both, or where that is shown
  record IsNext (x : Point) : Type 0 where
    before : List Seat
    seat : Seat
    mid : List Seat
    splits : virtual t other ≡ before ++ seat ∷ (mid ++ b.more)
    is : rest_at t one x ≡ seat ∷ (mid ++ b.rest)
    inside : stands_before seat.point p ≡ true
    there : (seat.point ≡ x) ⊎ (shown other seat.point ≡ x)

  module _ (x : Point) (n : IsNext x) where
    begins-other : Begins t other (end_after (point 1 1 0 0) n.before) n.seat (n.mid ++ b.more)
    begins-other = seat-begins t other d n.before n.seat (n.mid ++ b.more) n.splits

    -- the same virtual byte is next in the other document
    next-rest : rest_at t other x ≡ n.seat ∷ (n.mid ++ b.more)
    next-rest = elim n.there [
      | inl e ↦ ap (rest_at t other) (sym e) ∙ begins-other.at_seat
      | inr e ↦ ap (rest_at t other) (sym e) ∙ begins-other.at_shown
    ]

    next-point : IsPointOf t other x
    next-point = elim n.there [
      | inl e ↦ subst (IsPointOf t other) e (seat-is-point t other n.seat (record { front = n.before; back = n.mid ++ b.more; splits = n.splits }))
      | inr e ↦ subst (IsPointOf t other) (sym begins-other.shown_is ∙ e) (after-is-point t other d n.before (n.seat ∷ (n.mid ++ b.more)) n.splits)
    ]

  next-by : (x : Point) → stands_before p x ≡ false → (place : IsPlace t one x) → (mid : List Seat) → b.front ≡ place.before ++ mid → rest_at t one x ≡ mid ++ b.rest → (x ≡ p) ⊎ IsNext x
  next-by x upto place [] front is =
      let all : b.front ≡ place.before = front ∙ append-nil place.before in
      inl (is-shown-at one x p (place.stands ∙ ap (end_after (point 1 1 0 0)) (sym all) ∙ b.stands) upto)
  next-by x upto place (s ∷ mid) front is =
      let inside = (every-back (λ r. stands_before r.point p ≡ true) place.before (s ∷ mid) (subst (AllByRecursion (λ r. stands_before r.point p ≡ true)) front b.behind)).0 in
      let begins = seat-begins t one d place.before s (mid ++ b.rest) (place.splits ∙ ap (λ (ys : List Seat). place.before ++ ys) is) in
      let later = (subst (AllByRecursion (λ r. stands_before r.point x ≡ false)) is (rest-later t one x)).0 in
      let n : IsSeatAt t one x s = record { after = mid ++ b.rest; is = is; same = begins.at_seat ∙ sym is; later = later; inside = begins.inside } in
      inr (record {
        before = place.before;
        seat = s;
        mid = mid;
        splits = b.other_is ∙ ap (λ (ys : List Seat). ys ++ b.more) front ∙ append_assoc place.before (s ∷ mid) b.more;
        is = is;
        inside = inside;
        there = elim (stands-there t one x s d place.bounds.tab n) [
          | inl h ↦ inl h.0
          | inr h ↦ inr (sym (b.shows s.point (after-before s.point.index s.point.vs p.index p.vs inside)) ∙ at-cr one x s h.0 h.2)
        ];
      })

  where-is : (x : Point) → stands_before p x ≡ false → IsPlace t one x → (x ≡ p) ⊎ IsNext x
  where-is x upto place =
      let r = front-split (λ s. stands_before s.point x ≡ true) (λ s. stands_before s.point p ≡ false)
      (λ s h k. let no : true ≡ false = sym h ∙ not-earlier x upto s k in cc) place.before (rest_at t one x) b.front b.rest (sym place.splits ∙ b.one_is) place.behind b.rest_later in
      next-by x upto place r.0 r.1 r.2

  -- it is a place, with the same point
  pub point-alike : (x : Point) → stands_before p x ≡ false → IsPlace t one x → IsPointOf t other x
  point-alike x upto place = elim (where-is x upto place) [
    | inl e ↦ subst (IsPointOf t other) (b.stands ∙ sym e) (after-is-point t other d b.front b.more b.other_is)
    | inr n ↦ next-point x n
  ]

  pub place-alike : (x : Point) → stands_before p x ≡ false → IsPlace t one x → IsPlace t other x
  place-alike x upto place = place-of-point t other d x (point-alike x upto place)

  -- the next virtual byte there is the same
  pub seat-alike : (x : Point) → stands_before p x ≡ false → IsPlace t one x → (s : Seat) → IsSeatAt t one x s → stands_before s.point p ≡ true → IsSeatAt t other x s
  seat-alike x upto place s at less = elim (where-is x upto place) [
    | inl e ↦ absurd (let no : true ≡ false = sym less ∙ ap (stands_before s.point) (sym e) ∙ at.later in cc)
    | inr n ↦ (let same : n.seat ≡ s = first-same n.seat s (n.mid ++ b.rest) at.after (sym n.is ∙ at.is) in subst (IsSeatAt t other x) same (record {
      after = n.mid ++ b.more;
      is = next-rest x n;
      same = (begins-other x n).at_seat ∙ sym (next-rest x n);
      later = subst (λ (r : Seat). stands_before r.point x ≡ false) (sym same) at.later;
      inside = (begins-other x n).inside;
    }))
  ]

-- the same, with the documents the other way round
pub turned-round : {t : ℕ} {one other : List ℕ} {p : Point} → BeginAlike t one other p → BeginAlike t other one p
turned-round b = record {
  front = b.front;
  rest = b.more;
  more = b.rest;
  one_is = b.other_is;
  other_is = b.one_is;
  behind = b.behind;
  rest_later = b.more_later;
  more_later = b.rest_later;
  stands = b.stands;
  shows = λ x upto. sym (b.shows x upto);
}

module _ (t : ℕ) (d : 0 < t) (one other : List ℕ) (p : Point) (b : BeginAlike t one other p) where
  upto-equal : (x y : Point) → stands_before p x ≡ false → is_upto t one x y ≡ is_upto t other x y
  upto-equal x y upto = same_from_decides {P = is_upto t other x y ≡ true} (is_upto t one x y) (is_upto t other x y)
      (upto-alike t d one other p b x y upto, upto-alike t d other one p (turned-round b) x y upto) ((λ e. e), λ e. e)

  -- two earlier places denote the same in both, or in neither
  pub denotes-equal : (x y : Point) → stands_before p x ≡ false → stands_before p y ≡ false → denotes_same t one x y ≡ denotes_same t other x y
  denotes-equal x y u v = let e = upto-equal x y u in let f = upto-equal y x v in rw (e, f) refl

  -- an index and a number in a tab give the same point
  pub point-at-alike : (place : ℕ × ℕ) (x : Point) → stands_before p x ≡ false → point_at t one place ≡ Some x → point_at t other place ≡ Some x
  point-at-alike place x upto e =
      let at = point_at-is t one place x e in let i = at.index in let v = at.vs in
      subst (λ (q : ℕ × ℕ). point_at t other q ≡ Some x) (numbers i v) (point_at-point t other d x (point-alike t d one other p b x upto (place-of-point t one d x at.is_point)))
    where
      numbers : x.index ≡ place.0 → x.vs ≡ place.1 → (x.index, x.vs) ≡ place
      numbers i v = rw (i, v) refl

-- if a place behind another is shown there, a CR LF begins at that
cr-lf-there : (bytes : List ℕ) (i k : ℕ) → follows_cr bytes i ≡ true → (slice_index bytes i == 10) ≡ true → i - 1 ≡ k → ((slice_index bytes k == 13) && (slice_index bytes (k + 1) == 10)) ≡ true
cr-lf-there bytes zero k cr lf e = absurd (cc)
cr-lf-there bytes (suc j) k cr lf e =
    let is : j ≡ k = omega (arith, e) in let next : k + 1 ≡ suc j = omega (arith, e) in
    let first : (slice_index bytes k == 13) ≡ true = ap (λ (m : ℕ). slice_index bytes m == 13) (sym is) ∙ cr in rw (next, first, lf) refl

shown-back : (bytes : List ℕ) (x p : Point) → shown bytes x ≡ p → stands_before p x ≡ true → is_at_cr_lf bytes p ≡ true
shown-back bytes x p e less = tested ((slice_index bytes x.index == 10) && follows_cr bytes x.index) refl e
  where
    tested : (w : Bool) → ((slice_index bytes x.index == 10) && follows_cr bytes x.index) ≡ w → cond w (point x.line x.column (x.index - 1) x.vs) x ≡ p → is_at_cr_lf bytes p ≡ true
    tested false f h = absurd (let no : true ≡ false = sym less ∙ ap (stands_before p) h ∙ before-self p.index p.vs in cc)
    tested true f h = let parts = and_parts (slice_index bytes x.index == 10) (follows_cr bytes x.index) f in cr-lf-there bytes x.index p.index parts.1 parts.0 (ap (λ (q : Point). q.index) h)

-- a place that is not after another one is not behind it, if no CR LF begins there
pub earlier : (t : ℕ) (bytes : List ℕ) (x p : Point) → IsPlace t bytes x → IsPlace t bytes p → IsShown bytes p → is_at_cr_lf bytes p ≡ false → is_upto t bytes x p ≡ true → stands_before p x ≡ false
earlier t bytes x p at place whole apart upto = false_from_ne_true (stands_before p x) (λ less.
    let back = upto-order t bytes p x (after-before p.index p.vs x.index x.vs less) in
    let same = same-shown t bytes x p at place (upto-same t bytes x p upto back) in
    let no : true ≡ false = sym (shown-back bytes x p (same ∙ whole) less) ∙ apart in cc)

-- a virtual byte with a number in a tab is of a tab
tab-there : (t line column index : ℕ) (bs : List ℕ) → AllByRecursion (λ s. 0 < s.point.vs → (k : ℕ) → index + k ≡ s.point.index → slice_index bs k ≡ 9) (virtual_from t line column index bs)
tab-there t line column index [] = tt
tab-there t line column index (b ∷ bs) =
    let P = λ (s : Seat). 0 < s.point.vs → (k : ℕ) → index + k ≡ s.point.index → slice_index (b ∷ bs) k ≡ 9 in
    let next = λ (l m : ℕ). every-both (λ s. suc index ≤ s.point.index) (λ s. 0 < s.point.vs → (k : ℕ) → suc index + k ≡ s.point.index → slice_index bs k ≡ 9) P (tab-on index b bs) (virtual_from t l m (suc index) bs)
    (virtual-index t l m (suc index) bs) (tab-there t l m (suc index) bs) in
    every-cond P (b == 10) _ _ ((λ h. absurd (omega (arith, h))), next (suc line) 1)
    (every-cond P (b == 13) _ _ (every-cond P (begins_with_lf bs) _ _ (next line column) ((λ h. absurd (omega (arith, h))), next (suc line) 1))
    (cond_both (b == 9) (in_tab 9 (tab_width t column) line column index 0 ++ virtual_from t line (column + tab_width t column) (suc index) bs) (other_byte b line column index ∷ virtual_from t line (suc column) (suc index) bs) (AllByRecursion P)
    (λ tab. every-append P _ _ (every-map (λ s. (s.point.index ≡ index) × (0 ≤ s.point.vs)) P (λ s at. tab-here b bs index s (eqb-true b 9 tab) at.0) _ (tab-index 9 (tab_width t column) line column index 0)) (next line (column + tab_width t column)))
    (λ tab. ((λ h. absurd (omega (arith, h))), next line (suc column)))))

module _ (t : ℕ) (d : 0 < t) (one other : List ℕ) (p : Point) (place : IsPlace t one p) (same : take (bytes_up_to p) one ≡ take (bytes_up_to p) other) where
  -- if the place is in a tab, the tab is there
  in-a-tab : (p.vs == 0) ≡ false → slice_index one p.index ≡ 9
  in-a-tab e =
      let some : 0 < p.vs = grind (arith, nat_tests) in
      let next = seat-in-tab t one p d some (place.bounds.tab some) in
      let all = subst (AllByRecursion (λ s. 0 < s.point.vs → (k : ℕ) → 0 + k ≡ s.point.index → slice_index one k ≡ 9)) (place.splits ∙ ap (λ (ys : List Seat). place.before ++ ys) next.1.is) (tab-there t 1 1 0 one) in
      (every-back (λ s. 0 < s.point.vs → (k : ℕ) → 0 + k ≡ s.point.index → slice_index one k ≡ 9) place.before _ all).0 some p.index (omega arith)

  in-a-tab-too : (p.vs == 0) ≡ false → slice_index other p.index ≡ 9
  in-a-tab-too e =
      let up : bytes_up_to p ≡ suc p.index = rw e refl in
      sym (same-byte (bytes_up_to p) p.index one other same (omega (arith, up))) ∙ in-a-tab e

  pub begin-alike : IsShown one p → IsShown other p → ((x : Point) → stands_before p x ≡ false → shown one x ≡ shown other x) → BeginAlike t one other p
  begin-alike whole whole-too shows =
      let n = bytes_up_to p in
      let r = same-front t 1 1 0 n n one other (omega arith) same (cut-up-to one p whole in-a-tab) (cut-up-to other p whole-too in-a-tab-too) in
      let rest = virtual_from t r.row r.from n (drop n one) in let more = virtual_from t r.row r.from n (drop n other) in
      let Later = λ (s : Seat). stands_before s.point p ≡ false in
      let beyond = λ (xs : List Seat) (k : AllByRecursion (λ s. n ≤ s.point.index) xs). every-map (λ s. n ≤ s.point.index) Later (λ s l. beyond-up-to p s.point.index s.point.vs l) xs k in
      let split = front-split (λ s. stands_before s.point p ≡ true) Later (λ s h k. let no : true ≡ false = sym h ∙ k in cc)
      place.before (rest_at t one p) r.front rest (sym place.splits ∙ r.one) place.behind (beyond rest (virtual-index t r.row r.from n (drop n one))) in
      record {
        front = place.before;
        rest = rest_at t one p;
        more = split.0 ++ more;
        one_is = place.splits;
        other_is = r.other ∙ ap (λ (ys : List Seat). ys ++ more) split.1 ∙ append_assoc place.before split.0 more;
        behind = place.behind;
        rest_later = rest-later t one p;
        more_later = every-append Later split.0 more (every-front Later split.0 rest (subst (AllByRecursion Later) split.2 (rest-later t one p))) (beyond more (virtual-index t r.row r.from n (drop n other)));
        stands = sym place.stands ∙ whole;
        shows = shows;
      }
