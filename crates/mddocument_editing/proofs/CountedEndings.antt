-- Line endings counted from the front on, and lines that start behind other bytes: for definitions that walk down a list.
use Rattle.mddocument_editing.proofs.Prelude.{◌≡◌, ℕ, zero, suc, ◌+◌, Bool, true, false, cond, List, [], ◌∷◌, ◌++◌, length, refl, sym, ap, ◌∙◌, arith, nat_tests, length-append, ◌==◌, ◌||◌, not, slice_index, ends_line, is_line_start, begins_with_lf, endings, starts_up_to, ◌&&◌}
use Rattle.mddocument_editing.proofs.StartsUpTo.{more, starts-some}

-- the next byte is an LF
lf-next : (bs : List ℕ) → (slice_index bs 0 == 10) ≡ begins_with_lf bs
lf-next [] = refl
lf-next (b ∷ bs) = refl

-- the first byte ends a line
ends-first : (b : ℕ) (bs : List ℕ) → ends_line (b ∷ bs) 0 ≡ cond (b == 13) (not (begins_with_lf bs)) (b == 10)
ends-first b bs = ap (λ x. cond (b == 13) (not x) (b == 10)) (lf-next bs)

length-cond : (xs : List ℕ) (b : Bool) (n : ℕ) → length (xs ++ cond b (n ∷ []) []) ≡ length xs + cond b 1 0
length-cond xs true n = length-append xs (n ∷ [])
length-cond xs false n = length-append xs []

more-length : (bytes : List ℕ) (k : ℕ) → length (starts_up_to bytes (k + 1)) ≡ length (starts_up_to bytes k) + cond (ends_line bytes k) 1 0
more-length bytes k = ap length (more bytes k) ∙ length-cond (starts_up_to bytes k) (ends_line bytes k) (k + 1)

-- the lines up to an index behind the first byte: one more, if that ends a line
lines-behind : (b : ℕ) (bs : List ℕ) (k : ℕ) → length (starts_up_to (b ∷ bs) (k + 1)) ≡ cond (ends_line (b ∷ bs) 0) 1 0 + length (starts_up_to bs k)
lines-behind b bs zero = omega (arith, more-length (b ∷ bs) 0)
lines-behind b bs (suc j) =
    let e : suc j ≡ j + 1 = omega arith in
    let before = ap (λ n. length (starts_up_to (b ∷ bs) n)) e ∙ lines-behind b bs j in
    let here = ap (λ n. length (starts_up_to bs n)) e ∙ more-length bs j in
    omega (arith, more-length (b ∷ bs) (suc j), before, here)

count-step : (b n : ℕ) (z : Bool) → cond (cond (b == 13) (not z) (b == 10)) 1 0 + n ≡ cond (b == 10) (suc n) (cond (b == 13) (cond z n (suc n)) n)
count-step b n z = grind (arith, nat_tests)

-- so counted
pub endings-counted : (count : List ℕ → ℕ) → count [] ≡ 0
    → ((b : ℕ) (bs : List ℕ) → count (b ∷ bs) ≡ cond (b == 10) (suc (count bs)) (cond (b == 13) (cond (begins_with_lf bs) (count bs) (suc (count bs))) (count bs)))
    → (bytes : List ℕ) → endings bytes ≡ count bytes
endings-counted count none some [] = sym none
endings-counted count none some (b ∷ bs) =
    let e : suc (length bs) ≡ length bs + 1 = omega arith in
    let lines = ap (λ n. length (starts_up_to (b ∷ bs) n)) e ∙ lines-behind b bs (length bs) ∙ ap (λ x. cond x 1 0 + length (starts_up_to bs (length bs))) (ends-first b bs) in
    let rest = endings-counted count none some bs in
    let total : endings (b ∷ bs) ≡ cond (cond (b == 13) (not (begins_with_lf bs)) (b == 10)) 1 0 + count bs = omega (arith, lines, rest, (starts-some bs (length bs)).0) in
    total ∙ count-step b (count bs) (begins_with_lf bs) ∙ sym (some b bs)

one-step : (b : ℕ) (z : Bool) → cond (b == 13) (not z) (b == 10) ≡ ((b == 10) || ((b == 13) && not z))
one-step b z = grind (arith, nat_tests)

-- a line starts behind bytes
module _ (begins : List ℕ → List ℕ → Bool) (none : (behind : List ℕ) → begins behind [] ≡ true)
    (one : (behind : List ℕ) (b : ℕ) → begins behind (b ∷ []) ≡ ((b == 10) || ((b == 13) && not (begins_with_lf behind))))
    (next : (behind : List ℕ) (b c : ℕ) (bs : List ℕ) → begins behind (b ∷ c ∷ bs) ≡ begins behind (c ∷ bs)) where
  behind-some : (part : List ℕ) (b : ℕ) (bs : List ℕ) → is_line_start (b ∷ (bs ++ part)) (suc (length bs)) ≡ begins part (b ∷ bs)
  behind-some part b [] = ends-first b part ∙ one-step b (begins_with_lf part) ∙ sym (one part b)
  behind-some part b (c ∷ bs) = behind-some part c bs ∙ sym (next part b c bs)

  pub starts-line : (front part : List ℕ) → is_line_start (front ++ part) (length front) ≡ begins part front
  starts-line [] part = sym (none part)
  starts-line (b ∷ bs) part = behind-some part b bs
