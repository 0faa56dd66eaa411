-- The places between the characters of a text, one character on.
use Rattle.mddocument_editing.proofs.Prelude.{◌≡◌, ℕ, zero, suc, ◌+◌, ◌-◌, ◌<◌, ◌≤◌, Bool, true, false, cond, List, [], ◌∷◌, length, take, drop, refl, sym, ap, ◌∙◌, arith, inl, inr, Some, None, ne_eqb, cases_Bool, nat_tests, drop-drop, drop_all, length-drop, take_rest, sum_by-cons, ◌==◌, find, sum, is_utf8, Encoding, Utf8, Utf16, Place, behind, first_size, length_in, places_from, sizes, sizes_behind, units, map}
use Rattle.mddocument_editing.proofs.CharSizes.{first-size, led_by, led-within}

-- ---- sizes

-- a character has a byte, and no more than there are
pub first-some : (bs : List ℕ) → 0 < length bs → (1 ≤ first_size bs) × (first_size bs ≤ length bs)
first-some bs full =
    let is = first-size bs full in
    elim (cases_Bool (is_utf8 (take (led_by bs) bs))) [
      | inl text ↦ let same = is ∙ ap (λ b. cond b (led_by bs) 1) text in (omega (arith, same), omega (arith, same, led-within bs full text))
      | inr fails ↦ let same = is ∙ ap (λ b. cond b (led_by bs) 1) fails in (omega (arith, same), omega (arith, same))
    ]

-- the characters behind the first few bytes are those of what is left
behind-few : (few : ℕ) (bs : List ℕ) → sizes_behind few bs ≡ sizes (drop few bs)
behind-few zero bs = refl
behind-few (suc few) [] = refl
behind-few (suc few) (b ∷ bs) = behind-few few bs

rest-of : (n : ℕ) (b : ℕ) (bs : List ℕ) → 1 ≤ n → drop (n - 1) bs ≡ drop n (b ∷ bs)
rest-of n b bs some = let e : suc (n - 1) ≡ n = omega arith in ap (λ k. drop k (b ∷ bs)) e

-- the first character, and those behind it
sizes-cons : (bs : List ℕ) → 0 < length bs → sizes bs ≡ first_size bs ∷ sizes (drop (first_size bs) bs)
sizes-cons [] full = absurd (omega arith)
sizes-cons (b ∷ bs) full =
    let n = first_size (b ∷ bs) in
    ap (λ ns. n ∷ ns) (behind-few (n - 1) bs ∙ ap sizes (rest-of n b bs (first-some (b ∷ bs) full).0))

pub sizes-next : (text : List ℕ) (i : ℕ) → i < length text → sizes (drop i text) ≡ first_size (drop i text) ∷ sizes (drop (i + first_size (drop i text)) text)
sizes-next text i within =
    let n = first_size (drop i text) in
    sizes-cons (drop i text) (omega (arith, length-drop i text)) ∙ ap (λ bs. n ∷ sizes bs) (drop-drop n i text)

-- ---- units

pub units-some : (encoding : Encoding) (n : ℕ) → 1 ≤ n → (1 ≤ units encoding n) × (units encoding n ≤ n)
units-some Utf8 n some = (some, omega arith)
units-some Utf16 n some = grind (arith, nat_tests)

pub length-next : (encoding : Encoding) (text : List ℕ) (i : ℕ) → i < length text
    → length_in encoding (drop i text) ≡ units encoding (first_size (drop i text)) + length_in encoding (drop (i + first_size (drop i text)) text)
length-next encoding text i within =
    let n = first_size (drop i text) in
    let rest = sizes (drop (i + n) text) in
    ap (λ ns. sum (map (units encoding) ns)) (sizes-next text i within) ∙ sum_by-cons (λ x. x) (units encoding n) (map (units encoding) rest)

-- ---- places

module _ (encoding : Encoding) where
  -- the first place is found, if it passes
  pub find-first : (P : Place → Bool) (p : Place) (ns : List ℕ) → P p ≡ true → find P (places_from encoding p ns) ≡ Some p
  find-first P p [] h = ap (λ b. cond b (Some p) None) h
  find-first P p (n ∷ ns) h = ap (λ b. cond b (Some p) (find P (places_from encoding (behind encoding p n) ns))) h

  -- if it does not, the next ones are looked at
  pub find-next : (P : Place → Bool) (text : List ℕ) (p : Place) → p.index < length text → P p ≡ false
      → find P (places_from encoding p (sizes (drop p.index text))) ≡ find P (places_from encoding (behind encoding p (first_size (drop p.index text))) (sizes (drop (p.index + first_size (drop p.index text)) text)))
  find-next P text p within h =
      let n = first_size (drop p.index text) in
      let rest = sizes (drop (p.index + n) text) in
      ap (λ ns. find P (places_from encoding p ns)) (sizes-next text p.index within) ∙ ap (λ b. cond b (Some p) (find P (places_from encoding (behind encoding p n) rest))) h

  module _ (key : Place → ℕ) (grows : (p : Place) (n : ℕ) → key p ≤ key (behind encoding p n)) where
    -- no place is found that is in front of all
    pub find-none : (k : ℕ) (p : Place) (ns : List ℕ) → k < key p → find (λ q. key q == k) (places_from encoding p ns) ≡ None
    find-none k p [] h = ap (λ b. cond b (Some p) None) (ne_eqb (key p) k (omega arith))
    find-none k p (n ∷ ns) h =
        let next = behind encoding p n in
        ap (λ b. cond b (Some p) (find (λ q. key q == k) (places_from encoding next ns))) (ne_eqb (key p) k (omega arith))
        ∙ find-none k next ns (omega (arith, grows p n))

  -- one turn: behind one more character, what is found is the same
  module _ (text : List ℕ) (i passed n u : ℕ) (within : i < length text) (size : n ≡ first_size (take (length text - i) (drop i text))) (long : u ≡ units encoding n) where
    size-is : n ≡ first_size (drop i text)
    size-is = size ∙ ap first_size (take_rest text i)

    pub turn-find : (P : Place → Bool) → P (record { index = i; character = passed }) ≡ false
        → find P (places_from encoding (record { index = i + n; character = passed + u }) (sizes (drop (i + n) text))) ≡ find P (places_from encoding (record { index = i; character = passed }) (sizes (drop i text)))
    turn-find P h =
        ap (λ w. find P (places_from encoding (record { index = i + n; character = passed + w }) (sizes (drop (i + n) text)))) long
        ∙ ap (λ k. find P (places_from encoding (record { index = i + k; character = passed + units encoding k }) (sizes (drop (i + k) text)))) size-is
        ∙ sym (find-next P text (record { index = i; character = passed }) within h)

    pub turn-length : length_in encoding (drop i text) ≡ u + length_in encoding (drop (i + n) text)
    turn-length = length-next encoding text i within ∙ ap (λ k. units encoding k + length_in encoding (drop (i + k) text)) (sym size-is) ∙ ap (λ w. w + length_in encoding (drop (i + n) text)) (sym long)

    pub turn-units : (1 ≤ u) × (u ≤ n) × (i + n ≤ length text)
    turn-units =
        let some = first-some (drop i text) (omega (arith, length-drop i text)) in
        let few = units-some encoding n (omega (arith, some.0, size-is)) in
        (omega (arith, few.0, long), omega (arith, few.1, long), omega (arith, some.1, size-is, length-drop i text))

-- there are no units behind the end
pub length-end : (encoding : Encoding) (text : List ℕ) (i : ℕ) → length text ≤ i → length_in encoding (drop i text) ≡ 0
length-end encoding text i past = ap (length_in encoding) (drop_all i text past)
