-- Where the bytes of a document begin, and its places.
use Rattle.markdown_children.proofs.Prelude.{◌≡◌, ℕ, zero, suc, ◌+◌, ◌-◌, ◌<◌, ◌≤◌, ◌⊎◌, inl, inr, Bool, true, false, List, [], ◌∷◌, ◌++◌, length, drop, get_or, Some, refl, sym, ◌∙◌, ap, subst, arith, eqb-true, append_assoc, ◌==◌, ◌&&◌, nat_le, nat_lt, slice_index, leb-true, ltb-true, le-leb, lt-ltb, eq-eqb, ne_eqb, false_from_ne_true, same_Some, and_parts, Point, Seat, point, tab_width, in_tab, begins_with_lf, virtual_from, shown, follows_cr, IsPointOf, IsShown, point_at, IsReached, IsSeatPlace, IsReturnPlace, tab_width-least, reached_start, reached-line_feed, reached-return, reached-crlf, reached-tab, reached-plain, place-of, byte_here, point-of_reached, is_lf, ends_line, and-false-never, point_at-point, point_at-is, IsAmong, seat-is-point, IsShownPlace, width_at, line_after, column_after, line_at, column_at, byte_start, is_of_byte, is_place, ByteStart, get_or-eq_default, cases_lt, ⊎_elim}
use Rattle.markdown_children.proofs.ChainOrder.Following.{by_test}
use Rattle.markdown_children.proofs.Ready.Tests.{four-parts}

-- ---- where each byte begins

lf-next : (bytes : List ℕ) (i : ℕ) → begins_with_lf (drop i bytes) ≡ is_lf bytes i
lf-next [] zero = refl
lf-next (b ∷ bytes) (suc i) = lf-next bytes i
lf-next bytes i = refl

module _ (t : ℕ) (some : 0 < t) (bytes : List ℕ) where
  -- one byte on, by what it is: an LF, a CR, an LF behind it, a tab
  reached-on : (line column i : ℕ) (w x y z : Bool) → IsReached t bytes line column i → i < length bytes → is_lf bytes i ≡ w → (slice_index bytes i == 13) ≡ x → is_lf bytes (suc i) ≡ y → (slice_index bytes i == 9) ≡ z
      → IsReached t bytes (line_after bytes line i) (column_after t bytes column i) (suc i)
  reached-on line column i true true y z r within a b c d = let e = eqb-true (get_or bytes i 0) 10 a in let f = eqb-true (get_or bytes i 0) 13 b in absurd (omega arith)
  reached-on line column i true false y z r within a b c d = rw (b, a) (reached-line_feed t bytes line column i r within a)
  reached-on line column i false true true z r within a b c d = rw (b, c) (reached-crlf t bytes line column i r within a b (lf-next bytes (suc i) ∙ c))
  reached-on line column i false true false z r within a b c d = rw (b, c) (reached-return t bytes line column i r within a b (lf-next bytes (suc i) ∙ c))
  reached-on line column i false false y true r within a b c d = rw (b, a, d) (reached-tab t bytes line column i r within some a b d)
  reached-on line column i false false y false r within a b c d = rw (b, a, d) (reached-plain t bytes line column i r within some a b d)

  pub reached-at : (k : ℕ) → k ≤ length bytes → IsReached t bytes (line_at bytes k) (column_at t bytes k) k
  reached-at zero h = reached_start t bytes
  reached-at (suc k) h =
      reached-on (line_at bytes k) (column_at t bytes k) k (is_lf bytes k) (slice_index bytes k == 13) (is_lf bytes (suc k)) (slice_index bytes k == 9)
      (reached-at k (omega arith)) (omega arith) refl refl refl refl

pub line_at-le : (bytes : List ℕ) (k : ℕ) → line_at bytes k ≤ k + 1
line_at-le bytes zero = omega arith
line_at-le bytes (suc k) = by_test (ends_line bytes k) (λ e. rw e (omega (arith, line_at-le bytes k))) (λ e. rw e (omega (arith, line_at-le bytes k)))

-- ---- the places of a tab

in_tab-among : (byte n line column index vs k : ℕ) → k < n → (s : Seat) × IsAmong s (in_tab byte n line column index vs) × (s.point ≡ point line (column + k) index (vs + k))
in_tab-among byte zero line column index vs k h = absurd (omega arith)
in_tab-among byte (suc n) line column index vs zero h =
    let s : Seat = record { byte = byte; point = point line column index vs; end = Rattle.markdown_base.specs.Virtual.end_in_tab n line column index vs } in
    let a : column ≡ column + 0 = omega arith in
    let b : vs ≡ vs + 0 = omega arith in
    (s, record { front = []; back = in_tab 32 n line (suc column) index (suc vs); splits = refl }, λ j. point line (a j) index (b j))
in_tab-among byte (suc n) line column index vs (suc k) h =
    let r = in_tab-among 32 n line (suc column) index (suc vs) k (omega arith) in
    let a : suc column + k ≡ column + suc k = omega arith in
    let b : suc vs + k ≡ vs + suc k = omega arith in
    let s : Seat = record { byte = byte; point = point line column index vs; end = Rattle.markdown_base.specs.Virtual.end_in_tab n line column index vs } in
    (r.0, record { front = s ∷ r.1.front; back = r.1.back; splits = ap (λ ss. s ∷ ss) r.1.splits }, r.2 ∙ (λ j. point line (a j) index (b j)))

module _ (t : ℕ) (some : 0 < t) (bytes : List ℕ) where
  tab-place : (line column i k : ℕ) → IsReached t bytes line column i → i < length bytes → get_or bytes i 0 ≡ 9 → k < tab_width t column → IsPointOf t bytes (point line (column + k) i k)
  tab-place line column i k r within is h =
      let w = tab_width t column in
      let rest = virtual_from t line (column + w) (suc i) (drop (suc i) bytes) in
      let z : 0 + k ≡ k = omega arith in
      let among = in_tab-among 9 w line column i 0 k h in
      let s = among.0 in
      let here : virtual_from t line column i (drop i bytes) ≡ in_tab 9 w line column i 0 ++ rest =
      rw (byte_here t bytes line column i r within, ne_eqb (get_or bytes i 0) 10 (λ e. omega arith), ne_eqb (get_or bytes i 0) 13 (λ e. omega arith), eq-eqb (get_or bytes i 0) 9 is) refl in
      subst (IsPointOf t bytes) (among.2 ∙ (λ j. point line (column + k) i (z j))) (seat-is-point t bytes s (record {
        front = r.front ++ among.1.front;
        back = among.1.back ++ rest;
        splits = r.whole ∙ ap (λ zs. r.front ++ zs) (here ∙ ap (λ zs. zs ++ rest) among.1.splits ∙ append_assoc among.1.front (s ∷ among.1.back) rest)
            ∙ sym (append_assoc r.front among.1.front (s ∷ (among.1.back ++ rest)));
      }))

  -- a point that is one of the places of a byte
  of-byte : (p : Point) (line column : ℕ) (y z : Bool) → IsReached t bytes line column p.index → (slice_index bytes p.index == 9) ≡ y → (is_lf bytes p.index && follows_cr bytes p.index) ≡ z
      → line ≡ p.line → column ≤ p.column → p.column - column ≡ p.vs → p.vs < width_at t bytes column p.index → IsShownPlace t bytes p
  of-byte p line column true z r e f a b c d =
      let is : get_or bytes p.index 0 ≡ 9 = eqb-true (get_or bytes p.index 0) 9 e in
      let w : width_at t bytes column p.index ≡ tab_width t column = rw e refl in
      let within : p.index < length bytes = ⊎_elim (λ (l : p.index < length bytes). l) (λ (l : length bytes ≤ p.index). absurd (omega (arith, get_or-eq_default bytes 0 l))) (cases_lt p.index (length bytes)) in
      let same : column + p.vs ≡ p.column = omega (arith, b, c) in
      (subst (IsPointOf t bytes) (λ j. point (a j) (same j) p.index p.vs) (tab-place line column p.index p.vs r within is (omega (arith, d, w))), rw (ne_eqb (get_or bytes p.index 0) 10 (λ g. omega arith)) refl)
  of-byte p line column false true r e f a b c d =
      let w : width_at t bytes column p.index ≡ 0 = rw (e, f) refl in
      absurd (omega (arith, d, w))
  of-byte p line column false false r e f a b c d =
      let w : width_at t bytes column p.index ≡ 1 = rw (e, f) refl in
      let v : 0 ≡ p.vs = omega (arith, d, w) in
      let same : column ≡ p.column = omega (arith, b, c, v) in
      (subst (IsPointOf t bytes) (λ j. point (a j) (same j) p.index (v j)) (point_at-is t bytes (p.index, 0) (point line column p.index 0) (point-of_reached t some bytes line column p.index r)).is_point, rw f refl)

  -- a point that passes the test is a place that is shown
  pub place-sound : (p : Point) → is_place t bytes p ≡ true → IsShownPlace t bytes p
  place-sound p e =
      let start = byte_start t bytes p.index in
      let width = width_at t bytes start.column p.index in
      let all = and_parts (nat_le p.index (length bytes)) (is_of_byte t bytes p start) e in
      let four = four-parts (start.line == p.line) (nat_le start.column p.column) (p.column - start.column == p.vs) (nat_lt p.vs width) all.1 in
      of-byte p start.line start.column (slice_index bytes p.index == 9) (is_lf bytes p.index && follows_cr bytes p.index) (reached-at t some bytes p.index (leb-true p.index (length bytes) all.0)) refl refl
      (eqb-true start.line p.line four.0) (leb-true start.column p.column four.1) (eqb-true (p.column - start.column) p.vs four.2) (ltb-true p.vs width four.3)

  -- a place of a byte passes the test
  is-place : (p : Point) (start : ByteStart) → p.index ≤ length bytes → start.line ≡ p.line → start.column + p.vs ≡ p.column → p.vs < width_at t bytes start.column p.index
      → (nat_le p.index (length bytes) && is_of_byte t bytes p start) ≡ true
  is-place p start inside a b c =
      let le : start.column ≤ p.column = omega (arith, b) in
      let vs : p.column - start.column ≡ p.vs = omega (arith, b) in
      rw (le-leb p.index (length bytes) inside, eq-eqb start.line p.line a, le-leb start.column p.column le, eq-eqb (p.column - start.column) p.vs vs, lt-ltb p.vs _ c) refl

  not-pair : (p : Point) → IsShown bytes p → (is_lf bytes p.index && follows_cr bytes p.index) ≡ false
  not-pair p e = false_from_ne_true (is_lf bytes p.index && follows_cr bytes p.index) (λ pair.
      let cr : shown bytes p ≡ point p.line p.column (p.index - 1) p.vs = rw pair refl in
      let first : p.index ≡ 0 = omega (arith, ap (λ (q : Point). q.index) (sym cr ∙ e)) in
      and-false-never (is_lf bytes 0) (ap (λ n. is_lf bytes n && follows_cr bytes n) (sym first) ∙ pair))

  place-of-byte : (p : Point) → IsPointOf t bytes p → IsShown bytes p → (v : ℕ) → p.vs ≡ v → IsSeatPlace t bytes p ⊎ IsReturnPlace bytes p → is_place t bytes p ≡ true
  place-of-byte p is shown zero v o =
      let inside : p.index ≤ length bytes = ⊎_elim (λ (s : IsSeatPlace t bytes p). s.reached.inside) (λ (s : IsReturnPlace bytes p). omega (arith, s.1)) o in
      let start = byte_start t bytes p.index in
      let e : Some p ≡ Some (point start.line start.column p.index 0) =
      sym (point_at-point t bytes some p is) ∙ (λ j. point_at t bytes (p.index, v j)) ∙ point-of_reached t some bytes start.line start.column p.index (reached-at t some bytes p.index inside) in
      let f = same_Some p (point start.line start.column p.index 0) e in
      let c : p.column ≡ start.column = ap (λ (q : Point). q.column) f in
      let pair = not-pair p shown in
      let width : 0 < width_at t bytes start.column p.index = by_test (slice_index bytes p.index == 9) (λ d. rw d (tab_width-least t start.column some)) (λ d. rw (d, pair) (omega arith)) in
      is-place p start inside (sym (ap (λ (q : Point). q.line) f)) (omega (arith, c, v)) (omega (arith, v, width))
  place-of-byte p is shown (suc n) v (inl s) =
      let tab = s.in_tab (omega (arith, v)) in
      let inside : p.index ≤ length bytes = omega (arith, tab.0) in
      let start = byte_start t bytes p.index in
      let f = same_Some (point p.line s.column p.index 0) (point start.line start.column p.index 0)
      (sym (point-of_reached t some bytes p.line s.column p.index s.reached) ∙ point-of_reached t some bytes start.line start.column p.index (reached-at t some bytes p.index inside)) in
      let c : s.column ≡ start.column = ap (λ (q : Point). q.column) f in
      let w : width_at t bytes start.column p.index ≡ tab_width t start.column = rw (eq-eqb (get_or bytes p.index 0) 9 tab.1) refl in
      is-place p start inside (sym (ap (λ (q : Point). q.line) f)) (omega (arith, c, s.across)) (omega (arith, w, ap (tab_width t) c, tab.2))
  place-of-byte p is shown (suc n) v (inr s) = absurd (omega (arith, v, s.0))

  pub place-complete : (p : Point) → IsShownPlace t bytes p → is_place t bytes p ≡ true
  place-complete p h = place-of-byte p h.0 h.1 p.vs refl (place-of t some bytes p h.0)
