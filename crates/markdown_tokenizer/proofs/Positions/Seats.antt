-- The virtual byte at a place, read from the bytes.
use Rattle.markdown_tokenizer.proofs.Prelude.{AllByRecursion, ◌≡◌, ◌≢◌, ℕ, zero, suc, ◌+◌, ◌-◌, ◌≤◌, ◌<◌, ◌==◌, List, [], ◌∷◌, ◌++◌, Bool, true, false, cond, length, drop, Some, ◌⊎◌, inl, inr, refl, sym, ap, ◌∙◌, arith, drop-cons, add-one, slice_index, drop_all, eqb-true, cases_lt, nat_tests, mod-lt, Point, Seat, point, tab_width, in_tab, end_in_tab, virtual_from, begins_with_lf, stands_before, every-map, every-append, rest_at, begins_pair, IsPlace, IsSeatAt, IsNextSeat}
use Rattle.std.proofs.lemmas.Bool.{cond_both}
use Rattle.markdown_tokenizer.proofs.Positions.Order.{every-cond, not-before, after-before, below-before, before-self, is-not, not-number}

-- seats from an index on
abbrev FromIndex : ℕ → Seat → Type 0
FromIndex i s = i ≤ s.point.index

pub tab-index : (byte n line column index vs : ℕ) → AllByRecursion (λ s. (s.point.index ≡ index) × (vs ≤ s.point.vs)) (in_tab byte n line column index vs)
tab-index byte zero line column index vs = tt
tab-index byte (suc n) line column index vs =
    ((refl, omega arith), every-map (λ s. (s.point.index ≡ index) × (suc vs ≤ s.point.vs)) (λ s. (s.point.index ≡ index) × (vs ≤ s.point.vs)) (λ s h. (h.0, omega (arith, h.1))) (in_tab 32 n line (suc column) index (suc vs)) (tab-index 32 n line (suc column) index (suc vs)))

pub virtual-index : (t line column index : ℕ) (bs : List ℕ) → AllByRecursion (FromIndex index) (virtual_from t line column index bs)
virtual-index t line column index [] = tt
virtual-index t line column index (b ∷ bs) =
    let P = FromIndex index in
    let here : index ≤ index = omega arith in
    let next = λ (l m : ℕ). every-map (FromIndex (suc index)) P (λ s k. omega (arith, k)) (virtual_from t l m (suc index) bs) (virtual-index t l m (suc index) bs) in
    every-cond P (b == 10) _ _ (here, next (suc line) 1)
    (every-cond P (b == 13) _ _ (every-cond P (begins_with_lf bs) _ _ (next line column) (here, next (suc line) 1))
    (every-cond P (b == 9) _ _
    (every-append P _ _ (every-map (λ s. (s.point.index ≡ index) × (0 ≤ s.point.vs)) P (λ s h. omega (arith, h.0)) _ (tab-index 9 (tab_width t column) line column index 0)) (next line (column + tab_width t column)))
    (here, next line (suc column))))

-- the virtual bytes from a place on are not before it
pub rest-later : (t : ℕ) (bytes : List ℕ) (p : Point) → AllByRecursion (λ s. stands_before s.point p ≡ false) (rest_at t bytes p)
rest-later t bytes p =
    let P = λ (s : Seat). stands_before s.point p ≡ false in
    let here = virtual_from t p.line p.column p.index (drop p.index bytes) in
    let spaces = in_tab 32 (tab_width t p.column) p.line p.column p.index p.vs in
    let more = virtual_from t p.line (p.column + tab_width t p.column) (suc p.index) (drop (suc p.index) bytes) in
    cond_both (p.vs == 0) here (spaces ++ more) (AllByRecursion P)
    (λ e. every-map (FromIndex p.index) P (λ s h. not-before s.point.index s.point.vs p.index p.vs h (eqb-true p.vs 0 e)) here (virtual-index t p.line p.column p.index (drop p.index bytes)))
    (λ e. every-append P spaces more
    (every-map (λ s. (s.point.index ≡ p.index) × (p.vs ≤ s.point.vs)) P (λ s h. let e = h.0 in let f = h.1 in grind (arith, nat_tests)) spaces
    (tab-index 32 (tab_width t p.column) p.line p.column p.index p.vs))
    (every-map (FromIndex (suc p.index)) P (λ s h. after-before p.index p.vs s.point.index s.point.vs (below-before p.index p.vs s.point.index s.point.vs (omega (arith, h)))) more
    (virtual-index t p.line (p.column + tab_width t p.column) (suc p.index) (drop (suc p.index) bytes))))

-- the first of what is left at an index is the byte there
pub drop-first : (i : ℕ) (bytes : List ℕ) (b : ℕ) (bs : List ℕ) → drop i bytes ≡ b ∷ bs → (i < length bytes) × (slice_index bytes i ≡ b) × (drop (suc i) bytes ≡ bs)
drop-first zero (x ∷ xs) b bs e = (omega arith, (cc), (cc))
drop-first (suc i) (x ∷ xs) b bs e = let h = drop-first i xs b bs e in (omega (arith, h.0), h.1, h.2)
drop-first i bytes b bs e = absurd (cc)

-- what is left at an index does not begin with LF, so no LF is there
pub no-lf-there : (i : ℕ) (bytes bs : List ℕ) → drop i bytes ≡ bs → begins_with_lf bs ≡ false → slice_index bytes i ≢ 10
no-lf-there i [] bs e f = λ k. absurd (omega arith)
no-lf-there zero (x ∷ xs) bs e f = is-not x 10 (ap begins_with_lf e ∙ f)
no-lf-there (suc i) (x ∷ xs) bs e f = no-lf-there i xs bs e f

tab-tail : (byte n line column index vs : ℕ) → 0 < n → (end : Point) × (after : List Seat) × (in_tab byte n line column index vs ≡ record { byte = byte; point = point line column index vs; end = end } ∷ after)
tab-tail byte zero line column index vs h = absurd (omega arith)
tab-tail byte (suc n) line column index vs h = (end_in_tab n line column index vs, in_tab 32 n line (suc column) index (suc vs), refl)

pub width-pos : (t column : ℕ) → 0 < t → 0 < tab_width t column
width-pos t column h = let e = mod-lt (column - 1) h in omega arith

-- in a tab a space waits
pub seat-in-tab : (t : ℕ) (bytes : List ℕ) (p : Point) → 0 < t → 0 < p.vs → p.index < length bytes → IsNextSeat t bytes p (Some (32, p))
seat-in-tab t bytes p d h i =
    let e : (p.vs == 0) ≡ false = grind (arith, nat_tests) in
    let tail = tab-tail 32 (tab_width t p.column) p.line p.column p.index p.vs (width-pos t p.column d) in
    let more = virtual_from t p.line (p.column + tab_width t p.column) (suc p.index) (drop (suc p.index) bytes) in (
      tail.0,
      record {
        after = tail.1 ++ more;
        is = rw e (ap (λ (xs : List Seat). xs ++ more) tail.2);
        same = refl;
        later = before-self p.index p.vs;
        inside = i;
      },
    )

-- past the end nothing waits
pub seat-none : (t : ℕ) (bytes : List ℕ) (p : Point) → p.vs ≡ 0 → length bytes ≤ p.index → rest_at t bytes p ≡ []
seat-none t bytes p h i =
    let none : drop p.index bytes ≡ [] = drop_all p.index bytes i in
    rw (h, none) refl

-- the first virtual byte of some bytes that do not begin with CR LF
first-at : (t l c i b : ℕ) (bs : List ℕ) (x y z : Bool) → 0 < t → (b == 10) ≡ x → (b == 13) ≡ y → (b == 9) ≡ z → (b ≡ 13 → begins_with_lf bs ≡ false)
    → (end : Point) × (after : List Seat) × (virtual_from t l c i (b ∷ bs) ≡ record { byte = cond (b == 13) 10 b; point = point l c i 0; end = end } ∷ after)
first-at t l c i b bs true y z d ex ey ez alone = let e = eqb-true b 10 ex in rw e (_, _, refl)
first-at t l c i b bs false true z d ex ey ez alone = let e = eqb-true b 13 ey in let f = alone e in rw e (rw f (_, _, refl))
first-at t l c i b bs false false true d ex ey ez alone =
    let e = eqb-true b 9 ez in
    let tail = tab-tail 9 (tab_width t c) l c i 0 (width-pos t c d) in
    let more = virtual_from t l (c + tab_width t c) (suc i) bs in
    rw e (tail.0, tail.1 ++ more, ap (λ (xs : List Seat). xs ++ more) tail.2)
first-at t l c i b bs false false false d ex ey ez alone = rw (ex, ey, ez) (_, _, refl)

-- the seat of a byte that is no CR before LF
pub seat-plain : (t : ℕ) (bytes : List ℕ) (p : Point) (b : ℕ) → 0 < t → p.vs ≡ 0 → p.index < length bytes → slice_index bytes p.index ≡ b → (b ≡ 13 → begins_with_lf (drop (suc p.index) bytes) ≡ false)
    → IsNextSeat t bytes p (Some (cond (b == 13) 10 b, p))
seat-plain t bytes p b d h i is alone =
    let first = first-at t p.line p.column p.index b (drop (suc p.index) bytes) (b == 10) (b == 13) (b == 9) d refl refl refl alone in
    let bytes_are : drop p.index bytes ≡ b ∷ drop (suc p.index) bytes = drop-cons bytes p.index 0 i ∙ ap (λ (n : ℕ). n ∷ drop (suc p.index) bytes) is in
    let here : rest_at t bytes p ≡ virtual_from t p.line p.column p.index (b ∷ drop (suc p.index) bytes) = rw (h, bytes_are) refl in
    let at : point p.line p.column p.index 0 ≡ p = ap (λ (n : ℕ). point p.line p.column p.index n) (sym h) in (
      first.0,
      record {
        after = first.1;
        is = here ∙ first.2 ∙ ap (λ (q : Point). record { byte = cond (b == 13) 10 b; point = q; end = first.0 } ∷ first.1) at;
        same = refl;
        later = before-self p.index p.vs;
        inside = i;
      },
    )

-- the seat of a CR before LF is the LF's seat
pub seat-crlf : (t : ℕ) (bytes : List ℕ) (p : Point) → p.vs ≡ 0 → suc p.index < length bytes → slice_index bytes p.index ≡ 13 → slice_index bytes (suc p.index) ≡ 10
    → IsNextSeat t bytes p (Some (10, point p.line p.column (suc p.index) p.vs))
seat-crlf t bytes p h i cr lf =
    let first_byte : drop p.index bytes ≡ 13 ∷ drop (suc p.index) bytes = drop-cons bytes p.index 0 (omega arith) ∙ ap (λ (n : ℕ). n ∷ drop (suc p.index) bytes) cr in
    let second_byte : drop (suc p.index) bytes ≡ 10 ∷ drop (suc (suc p.index)) bytes = drop-cons bytes (suc p.index) 0 i ∙ ap (λ (n : ℕ). n ∷ drop (suc (suc p.index)) bytes) lf in
    let q = point p.line p.column (suc p.index) p.vs in
    let there : rest_at t bytes q ≡ virtual_from t p.line p.column (suc p.index) (10 ∷ drop (suc (suc p.index)) bytes) = rw (h, second_byte) refl in
    let here : rest_at t bytes p ≡ virtual_from t p.line p.column (suc p.index) (10 ∷ drop (suc (suc p.index)) bytes) = rw (h, first_byte, second_byte) refl in (
      point (suc p.line) 1 (suc (suc p.index)) 0,
      record {
        after = virtual_from t (suc p.line) 1 (suc (suc p.index)) (drop (suc (suc p.index)) bytes);
        is = here ∙ ap (λ (v : ℕ). record { byte = 10; point = point p.line p.column (suc p.index) v; end = point (suc p.line) 1 (suc (suc p.index)) 0 } ∷ virtual_from t (suc p.line) 1 (suc (suc p.index)) (drop (suc (suc p.index)) bytes)) (sym h);
        same = there ∙ sym here;
        later = after-before p.index p.vs (suc p.index) p.vs (below-before p.index p.vs (suc p.index) p.vs (omega arith));
        inside = i;
      },
    )

pub seat-other : (t : ℕ) (bytes : List ℕ) (p : Point) → 0 < t → p.vs ≡ 0 → p.index < length bytes → slice_index bytes p.index ≢ 13 → IsNextSeat t bytes p (Some (slice_index bytes p.index, p))
seat-other t bytes p d h i ne =
    let e = not-number (slice_index bytes p.index) 13 ne in
    let s = seat-plain t bytes p (slice_index bytes p.index) d h i refl (λ k. absurd (ne k)) in rw e at s

-- where no LF is, the rest does not begin with one
pub no-lf : (bytes : List ℕ) (i : ℕ) → (i < length bytes → slice_index bytes i ≢ 10) → begins_with_lf (drop i bytes) ≡ false
no-lf [] zero alone = refl
no-lf [] (suc i) alone = refl
no-lf (b ∷ bs) zero alone = not-number b 10 (alone (omega arith))
no-lf (b ∷ bs) (suc i) alone = no-lf bs i (λ l. alone (omega arith))

pub seat-cr : (t : ℕ) (bytes : List ℕ) (p : Point) → 0 < t → p.vs ≡ 0 → p.index < length bytes → slice_index bytes p.index ≡ 13 → (p.index + 1 < length bytes → slice_index bytes (p.index + 1) ≢ 10) → IsNextSeat t bytes p (Some (10, p))
seat-cr t bytes p d h i cr alone = seat-plain t bytes p 13 d h i cr (λ k. no-lf bytes (suc p.index) (λ l e. alone (omega arith) (rw add-one e)))

-- the next virtual byte is one
pub one-seat : (t : ℕ) (bytes : List ℕ) (p : Point) (a b : Seat) → IsSeatAt t bytes p a → IsSeatAt t bytes p b → a ≡ b
one-seat t bytes p a b h k = let e : a ∷ h.after ≡ b ∷ k.after = sym h.is ∙ k.is in cc

-- so its byte is one
pub byte-there : {t : ℕ} {bytes : List ℕ} {p : Point} {byte : ℕ} → ((s : Seat) × IsSeatAt t bytes p s × (s.byte ≡ byte)) → (seat : Seat) → IsSeatAt t bytes p seat → seat.byte ≡ byte
byte-there {t = t} {bytes = bytes} {p = p} next seat n = ap (λ (s : Seat). s.byte) (one-seat t bytes p seat next.0 n next.1) ∙ next.2

-- the virtual bytes in a tab are spaces, and no line endings
pub not-feed-in-tab : (t : ℕ) (bytes : List ℕ) (p : Point) (seat : Seat) → 0 < t → IsPlace t bytes p → IsSeatAt t bytes p seat → p.vs ≢ 0 → seat.byte ≢ 10
not-feed-in-tab t bytes p seat some place n h e =
    let inside : 0 < p.vs = omega (arith, h) in
    let space = seat-in-tab t bytes p some inside (place.bounds.tab inside) in
    let is : seat.byte ≡ 32 = byte-there (record { byte = 32; point = p; end = space.0 }, space.1, refl) seat n in
    omega (arith, e, is)

-- a CR LF begins at an index
pub pair-is : (bytes : List ℕ) (i : ℕ) → begins_pair bytes i ≡ true → (i + 1 < length bytes) × (slice_index bytes i ≡ 13) × (slice_index bytes (i + 1) ≡ 10)
pair-is bytes i h = (grind (arith, nat_tests), grind (arith, nat_tests), grind (arith, nat_tests))

-- a CR begins none
pub no-pair-is : (bytes : List ℕ) (i : ℕ) → slice_index bytes i ≡ 13 → begins_pair bytes i ≡ false → i + 1 < length bytes → slice_index bytes (i + 1) ≢ 10
no-pair-is bytes i cr h l lf = grind (arith, nat_tests)

-- The next virtual byte from a place on is at the place, or it is the LF of a CR LF there
abbrev pub StandsThere : List ℕ → Point → Seat → Type 0
StandsThere bytes p seat =
    ((seat.point ≡ p) × (seat.byte ≡ 10 → begins_pair bytes p.index ≡ false)) ⊎ ((begins_pair bytes p.index ≡ true) × (seat.byte ≡ 10) × (seat.point ≡ point p.line p.column (suc p.index) p.vs))

module _ (t : ℕ) (bytes : List ℕ) (p : Point) (seat : Seat) (d : 0 < t) (tab : 0 < p.vs → p.index < length bytes) (n : IsSeatAt t bytes p seat) where
  same-seat : (byte : ℕ) (q : Point) → IsNextSeat t bytes p (Some (byte, q)) → (seat.byte ≡ byte) × (seat.point ≡ q)
  same-seat byte q s = let e = one-seat t bytes p seat (record { byte = byte; point = q; end = s.0 }) n s.1 in (ap (λ (r : Seat). r.byte) e, ap (λ (r : Seat). r.point) e)

  -- by whether the place is in a tab, and whether a CR LF begins there
  there-at : (b w : Bool) → (p.vs == 0) ≡ b → begins_pair bytes p.index ≡ w → StandsThere bytes p seat
  there-at true true e g =
      let pair = pair-is bytes p.index g in
      let s = same-seat 10 (point p.line p.column (suc p.index) p.vs) (seat-crlf t bytes p (eqb-true p.vs 0 e) (rw add-one at pair.0) pair.1 (rw add-one at pair.2)) in
      inr (g, s.0, s.1)
  there-at true false e g =
      let flat = eqb-true p.vs 0 e in
      let byte = slice_index bytes p.index in
      let inside : p.index < length bytes = elim (cases_lt p.index (length bytes)) [ inl l ↦ l | inr past ↦ (let f = sym (seat-none t bytes p flat past) ∙ n.is in absurd cc) ] in
      let s = same-seat (cond (byte == 13) 10 byte) p (seat-plain t bytes p byte d flat inside refl
      (λ cr. no-lf bytes (suc p.index) (λ l k. no-pair-is bytes p.index cr g (omega arith) (rw add-one k)))) in
      inl (s.1, λ _. g)
  there-at false w e g =
      let h : 0 < p.vs = grind (arith, nat_tests) in
      let s = same-seat 32 p (seat-in-tab t bytes p d h (tab h)) in
      inl (s.1, λ b. let g = sym s.0 ∙ b in absurd cc)

  pub stands-there : StandsThere bytes p seat
  stands-there = there-at (p.vs == 0) (begins_pair bytes p.index) refl refl
