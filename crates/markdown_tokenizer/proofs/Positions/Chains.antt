-- The virtual bytes of a document, one after another: each begins at the place where the one before it ends.
use Rattle.markdown_tokenizer.proofs.Prelude.{◌≡◌, ◌≢◌, ℕ, zero, suc, ◌+◌, ◌-◌, ◌*◌, ◌%◌, ◌≤◌, ◌<◌, ◌==◌, List, [], ◌∷◌, ◌++◌, Bool, true, false, cond, length, drop, refl, sym, ap, ◌∙◌, subst, arith, add-one, slice_index, nat_lt, ◌&&◌, ◌||◌, nat_tests, eqb-true, mod-lt, suc-mod, mod_self, mod-eq_of_lt, Point, Seat, point, tab_width, in_tab, virtual_from, virtual, begins_with_lf, line_feed, stands_before, shown, IsShown, rest_at, Bounds, end_at}
use Rattle.markdown_tokenizer.proofs.Positions.Order.{is-not, not-number, before-self, below-before, more-before, after-before}
use Rattle.markdown_tokenizer.proofs.Positions.Seats.{width-pos, drop-first, no-lf-there}

-- the place after a virtual byte, and what is left there
pub record IsAt (t : ℕ) (bytes : List ℕ) (p : Point) (rest : List Seat) : Type 0 where
  pub is : rest_at t bytes p ≡ rest
  pub shown : IsShown bytes p
  pub bounds : Bounds t bytes p

-- a virtual byte begins at a place, with what follows it
pub record Begins (t : ℕ) (bytes : List ℕ) (p : Point) (s : Seat) (rest : List Seat) : Type 0 where
  pub at_seat : rest_at t bytes s.point ≡ s ∷ rest
  pub at_shown : rest_at t bytes (shown bytes s.point) ≡ s ∷ rest
  pub seat_bounds : Bounds t bytes s.point
  pub shown_bounds : Bounds t bytes (shown bytes s.point)
  pub later : stands_before s.point p ≡ false
  pub shown_later : stands_before (shown bytes s.point) p ≡ false
  pub shown_is : shown bytes s.point ≡ p
  pub ends : stands_before s.point s.end ≡ true
  pub end_is : end_at t s.byte s.point ≡ s.end
  pub inside : s.point.index < length bytes

-- virtual bytes from a place on
abbrev pub IsChain : (t : ℕ) → List ℕ → Point → List Seat → Type 0
IsChain t bytes p [] = IsAt t bytes p []
IsChain t bytes p (s ∷ ss) = IsAt t bytes p (s ∷ ss) × Begins t bytes p s ss × IsChain t bytes s.end ss

next-mod : (t c : ℕ) → 0 < t → 1 ≤ c → ((c - 1) % t + 1 < t → c % t ≡ (c - 1) % t + 1) × ((c - 1) % t + 1 ≡ t → c % t ≡ 0)
next-mod t c d h =
    let m = c - 1 in
    let is : suc m ≡ c = omega arith in
    let e = ap (λ (k : ℕ). k % t) (sym is) ∙ suc-mod m t in
    ((λ k. let k2 : suc (m % t) < t = omega arith in e ∙ mod-eq_of_lt k2 ∙ sym (add-one (m % t))), (λ k. let k2 : suc (m % t) ≡ t = omega arith in e ∙ ap (λ (n : ℕ). n % t) k2 ∙ mod_self t))

-- a tab is one shorter at the next column, unless it ends there
tab-shorter : (t c n : ℕ) → 0 < t → 1 ≤ c → tab_width t c ≡ suc (suc n) → (tab_width t (suc c) ≡ suc n) × (c % t ≢ 0)
tab-shorter t c n d h w =
    let b = mod-lt (c - 1) d in
    let next = (next-mod t c d h).0 (omega arith) in
    let back : suc c - 1 ≡ c = omega arith in
    let same : tab_width t (suc c) ≡ t - c % t = ap (λ (k : ℕ). t - k % t) back in
    (omega arith, λ z. absurd (omega arith))

-- a place is shown at itself if there is no LF at it, or if the byte before is no CR
pub shown-other : (bytes : List ℕ) (p : Point) → slice_index bytes p.index ≢ 10 → IsShown bytes p
shown-other bytes p h = let e = not-number (slice_index bytes p.index) 10 h in rw e refl

shown-after-at : (p q : Point) (b : Bool) → cond (b && false) q p ≡ p
shown-after-at p q true = refl
shown-after-at p q false = refl

pub shown-after : (bytes : List ℕ) (l c i v : ℕ) → slice_index bytes i ≢ 13 → IsShown bytes (point l c (suc i) v)
shown-after bytes l c i v h = let e = not-number (slice_index bytes i) 13 h in rw e (shown-after-at (point l c (suc i) v) (point l c (suc i - 1) v) (slice_index bytes (suc i) == 10))

-- all but the first
abbrev tail : List ℕ → List ℕ
tail [] = []
tail (b ∷ bs) = bs

lf-first : (bs : List ℕ) → begins_with_lf bs ≡ true → bs ≡ 10 ∷ tail bs
lf-first [] e = absurd (cc)
lf-first (b ∷ bs) e = let f = eqb-true b 10 e in rw f refl

module _ (t : ℕ) (bytes : List ℕ) (d : 0 < t) where
  -- a virtual byte, by its own place, which is shown at the place where the chain begins
  seat-chain : (p : Point) (s : Seat) (rest : List Seat) → shown bytes s.point ≡ p → rest_at t bytes s.point ≡ s ∷ rest → Bounds t bytes s.point → stands_before s.point p ≡ false
      → s.point.index < length bytes → stands_before s.point s.end ≡ true → end_at t s.byte s.point ≡ s.end → IsAt t bytes p (s ∷ rest) → IsChain t bytes s.end rest → IsChain t bytes p (s ∷ rest)
  seat-chain p s rest same seat bounds later inside ends end_is at more = (
    at,
    record {
      at_seat = seat;
      at_shown = rw same at.is;
      seat_bounds = bounds;
      shown_bounds = rw same at.bounds;
      later = later;
      shown_later = rw same (before-self p.index p.vs);
      shown_is = same;
      ends = ends;
      end_is = end_is;
      inside = inside;
    },
    more,
  )

  -- one that is shown at itself
  one-chain : (p : Point) (byte : ℕ) (end : Point) (rest : List Seat) → p.index < length bytes → stands_before p end ≡ true → end_at t byte p ≡ end
      → IsAt t bytes p (record { byte = byte; point = p; end = end } ∷ rest) → IsChain t bytes end rest → IsChain t bytes p (record { byte = byte; point = p; end = end } ∷ rest)
  one-chain p byte end rest inside before ends at more =
      seat-chain p (record { byte = byte; point = p; end = end }) rest at.shown at.is at.bounds (before-self p.index p.vs) inside before ends at more

  -- virtual bytes of a tab, from one of them on
  tab-chain : (byte n l c i v column : ℕ) (bs : List ℕ) → drop (suc i) bytes ≡ bs → slice_index bytes i ≡ 9 → i < length bytes → tab_width t c ≡ n → 0 < n → c + n ≡ column → v + n ≤ t
      → ((byte == 9) || nat_lt 0 v) ≡ true → (byte == 10) ≡ false → IsAt t bytes (point l c i v) (in_tab byte n l c i v ++ virtual_from t l column (suc i) bs)
      → IsChain t bytes (point l column (suc i) 0) (virtual_from t l column (suc i) bs) → IsChain t bytes (point l c i v) (in_tab byte n l c i v ++ virtual_from t l column (suc i) bs)
  tab-chain byte zero l c i v column bs there tab inside width some last fits is_tab no_lf at more = absurd (omega arith)
  tab-chain byte (suc zero) l c i v column bs there tab inside width some last fits is_tab no_lf at more =
      let ends = (next-mod t c d at.bounds.first).1 (omega (arith, mod-lt (c - 1) d)) in
      let next : column ≡ suc c = omega arith in
      one-chain (point l c i v) byte (point l (suc c) (suc i) 0) (virtual_from t l column (suc i) bs) inside (below-before i v (suc i) 0 (omega arith)) (rw (no_lf, is_tab, ends) refl) at
      (subst (λ (k : ℕ). IsChain t bytes (point l k (suc i) 0) (virtual_from t l column (suc i) bs)) next more)
  tab-chain byte (suc (suc n)) l c i v column bs there tab inside width some last fits is_tab no_lf at more =
      let shorter = tab-shorter t c n d at.bounds.first width in
      let go_on : (c % t == 0) ≡ false = not-number (c % t) 0 shorter.1 in
      let next_width = shorter.0 in
      let ahead = in_tab 32 (suc n) l (suc c) i (suc v) ++ virtual_from t l column (suc i) bs in
      let columns_are : suc c + suc n ≡ column = omega arith in
      let not_zero : (suc v == 0) ≡ false = not-number (suc v) 0 (λ e. absurd (omega arith)) in
      let b = at.bounds in
      let next : IsAt t bytes (point l (suc c) i (suc v)) ahead = record {
        is = rw (not_zero, next_width, columns_are, there) refl;
        shown = shown-other bytes (point l (suc c) i (suc v)) (λ e. let f : 9 ≡ 10 = sym tab ∙ e in absurd (omega arith));
        bounds = record { inside = b.inside; lines = b.lines; columns = omega (arith, b.columns); first = omega arith; beyond = omega (arith, b.beyond); spaces = omega arith; tab = λ _. inside };
      } in
      one-chain (point l c i v) byte (point l (suc c) i (suc v)) ahead inside (more-before i v) (rw (no_lf, is_tab, go_on) refl) at
      (tab-chain 32 (suc n) l (suc c) i (suc v) column bs there tab inside next_width (omega arith) columns_are (omega arith) (grind (arith, nat_tests)) refl next more)

  -- a place in no tab
  flat-bounds : (l c i : ℕ) → i ≤ length bytes → l ≤ i + 1 → 1 ≤ c → c ≤ t * i + 0 + 1 → Bounds t bytes (point l c i 0)
  flat-bounds l c i inside lines first columns = record { inside = inside; lines = lines; columns = columns; first = first; beyond = omega arith; spaces = d; tab = λ k. absurd (omega arith) }

  -- the chain of what follows the next byte, or the next two
  abbrev Next : ℕ → List ℕ → Type 0
  Next i bs = (l c : ℕ) → drop i bytes ≡ bs → i ≤ length bytes → IsShown bytes (point l c i 0) → Bounds t bytes (point l c i 0) → IsChain t bytes (point l c i 0) (virtual_from t l c i bs)

  module _ (l c i b : ℕ) (bs : List ℕ) (next : Next (suc i) bs) (after : Next (suc (suc i)) (tail bs)) (inside : i < length bytes) (here : slice_index bytes i ≡ b) (there : drop (suc i) bytes ≡ bs)
      (whole : drop i bytes ≡ b ∷ bs) (shown : IsShown bytes (point l c i 0)) (bounds : Bounds t bytes (point l c i 0)) where
    -- an LF, or a CR alone
    line-chain : virtual_from t l c i (b ∷ bs) ≡ line_feed l c i ∷ virtual_from t (suc l) 1 (suc i) bs → IsShown bytes (point (suc l) 1 (suc i) 0)
        → IsChain t bytes (point l c i 0) (line_feed l c i ∷ virtual_from t (suc l) 1 (suc i) bs)
    line-chain line shown_after =
        one-chain (point l c i 0) 10 (point (suc l) 1 (suc i) 0) (virtual_from t (suc l) 1 (suc i) bs) inside (below-before i 0 (suc i) 0 (omega arith)) refl
        (record { is = rw whole line; shown = shown; bounds = bounds }) (next (suc l) 1 there inside shown_after
        (flat-bounds (suc l) 1 (suc i) inside (omega (arith, bounds.lines)) (omega arith) (omega arith)))

    byte-chain : (x y z w : Bool) → (b == 10) ≡ x → (b == 13) ≡ y → (b == 9) ≡ z → begins_with_lf bs ≡ w → IsChain t bytes (point l c i 0) (virtual_from t l c i (b ∷ bs))
    byte-chain true y z w ex ey ez ew = rw ex (line-chain (rw ex refl) (shown-after bytes (suc l) 1 i 0 (λ k. let ten = eqb-true b 10 ex in absurd (omega arith))))
    byte-chain false true z true ex ey ez ew =
        let cr = eqb-true b 13 ey in
        let bs_are = lf-first bs ew in
        let second_are : drop (suc i) bytes ≡ 10 ∷ tail bs = there ∙ bs_are in
        let second = drop-first (suc i) bytes 10 (tail bs) second_are in
        let both : drop i bytes ≡ 13 ∷ 10 ∷ tail bs = whole ∙ ap (λ (n : ℕ). n ∷ bs) cr ∙ ap (λ (xs : List ℕ). 13 ∷ xs) bs_are in
        let rest = virtual_from t (suc l) 1 (suc (suc i)) (tail bs) in
        let first : slice_index bytes i ≡ 13 = here ∙ cr in
        let lf = second.1 in
        let back : suc i - 1 ≡ i = omega arith in
        let e : virtual_from t l c (suc i) bs ≡ line_feed l c (suc i) ∷ rest = ap (virtual_from t l c (suc i)) bs_are in
        let more = after (suc l) 1 second.2 second.0 (shown-after bytes (suc l) 1 (suc i) 0 (λ k. let g : 10 ≡ 13 = sym lf ∙ k in absurd (omega arith)))
        (flat-bounds (suc l) 1 (suc (suc i)) second.0 (omega (arith, bounds.lines)) (omega arith) (omega arith)) in
        rw (ex, ey, ew) (subst (IsChain t bytes (point l c i 0)) (sym e) (seat-chain (point l c i 0) (line_feed l c (suc i)) rest (rw (first, lf) (ap (λ (k : ℕ). point l c k 0) back))
        (rw second_are refl)
        (flat-bounds l c (suc i) inside (omega (arith, bounds.lines)) bounds.first (omega (arith, bounds.columns))) (after-before i 0 (suc i) 0 (below-before i 0 (suc i) 0 (omega arith))) second.0
        (below-before (suc i) 0 (suc (suc i)) 0 (omega arith)) refl (record { is = rw both refl; shown = shown; bounds = bounds }) more))
    byte-chain false true z false ex ey ez ew =
        rw (ex, ey, ew) (line-chain (rw (ex, ey, ew) refl) (shown-other bytes (point (suc l) 1 (suc i) 0) (no-lf-there (suc i) bytes bs there ew)))
    byte-chain false false true w ex ey ez ew =
        let tab = eqb-true b 9 ez in
        let e : drop i bytes ≡ 9 ∷ bs = whole ∙ ap (λ (n : ℕ). n ∷ bs) tab in
        let column = c + tab_width t c in
        rw (ex, ey, ez) (tab-chain 9 (tab_width t c) l c i 0 column bs there (here ∙ tab) inside refl (width-pos t c d) refl (omega arith) refl refl
        (record { is = rw e refl; shown = shown; bounds = bounds })
        (next l column there inside (shown-after bytes l column i 0 (λ k. let g : 9 ≡ 13 = sym tab ∙ sym here ∙ k in absurd (omega arith)))
        (flat-bounds l column (suc i) inside (omega (arith, bounds.lines)) (omega (arith, bounds.first)) (omega (arith, bounds.columns)))))
    byte-chain false false false w ex ey ez ew =
        rw (ex, ey, ez) (one-chain (point l c i 0) b (point l (suc c) (suc i) 0) (virtual_from t l (suc c) (suc i) bs) inside (below-before i 0 (suc i) 0 (omega arith)) (rw (ex, ez) refl)
        (record { is = rw whole (rw (ex, ey, ez) refl); shown = shown; bounds = bounds }) (next l (suc c) there inside (shown-after bytes l (suc c) i 0 (λ k. is-not b 13 ey (sym here ∙ k)))
        (flat-bounds l (suc c) (suc i) inside (omega (arith, bounds.lines)) (omega arith) (omega (arith, bounds.columns)))))

  from-chain : (i : ℕ) (bs : List ℕ) → Next i bs
  from-chain i [] l c e inside shown bounds = record { is = rw e refl; shown = shown; bounds = bounds }
  from-chain i (b ∷ []) l c e inside shown bounds =
      let f = drop-first i bytes b [] e in
      byte-chain l c i b [] (from-chain (suc i) []) (λ l2 c2 g h k m. record { is = rw g refl; shown = k; bounds = m }) f.0 f.1 f.2 e shown bounds
      (b == 10) (b == 13) (b == 9) false refl refl refl refl
  from-chain i (b ∷ b2 ∷ bs) l c e inside shown bounds =
      let f = drop-first i bytes b (b2 ∷ bs) e in
      byte-chain l c i b (b2 ∷ bs) (from-chain (suc i) (b2 ∷ bs)) (from-chain (suc (suc i)) bs) f.0 f.1 f.2 e shown bounds (b == 10) (b == 13) (b == 9) (b2 == 10) refl refl refl refl

  -- the virtual bytes of a document
  pub whole-chain : IsChain t bytes (point 1 1 0 0) (virtual t bytes)
  whole-chain = from-chain 0 bytes 1 1 refl (omega arith) (shown-after-at (point 1 1 0 0) (point 1 1 0 0) (slice_index bytes 0 == 10))
      (flat-bounds 1 1 0 (omega arith) (omega arith) (omega arith) (omega arith))
