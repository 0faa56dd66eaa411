-- The number of bytes of the character with which bytes begin, by the first byte.
use Rattle.mddocument_editing.proofs.Prelude.{◌≡◌, ℕ, ◌+◌, ◌<◌, ◌≤◌, Bool, true, false, cond, List, [], ◌∷◌, ◌++◌, length, take, get_or, refl, sym, ap, ◌∙◌, subst, arith, inl, inr, take-append_seam, cases_Bool, false≢true, nat_tests, get_or-take, get_or_append_left, length-append, length-take, take-take, IsUtf8-encode, IsUtf8-from_is_utf8, is_utf8-from_IsUtf8, length-encode, len_utf8_bounds, find, IsUtf8, unwrap_or, continuation_len, is_utf8, all_scalars, encode_utf8_all, first_size, ◌⊎◌}
use lib.Utf8.{encode, scalar}

-- the first byte of a character tells its size
pub led : (c : ℕ) → continuation_len (get_or (encode c) 0 0) + 1 ≡ length (encode c)
unfolding encode
led c = grind (arith, nat_tests)

-- the number of bytes of the character that the first byte begins
abbrev pub led_by : List ℕ → ℕ
led_by bs = continuation_len (get_or bs 0 0) + 1

-- a front that is UTF-8 begins with a character of the size that the first byte tells
front : (bs : List ℕ) (n : ℕ) → 1 ≤ n → 0 < length bs → IsUtf8 (take n bs) → (led_by bs ≤ n) × (led_by bs ≤ length bs) × IsUtf8 (take (led_by bs) bs)
front bs n some full (cs, h) = go cs h.0 h.1
  where
    go : (cs : List ℕ) → all_scalars cs ≡ true → encode_utf8_all cs ≡ take n bs → (led_by bs ≤ n) × (led_by bs ≤ length bs) × IsUtf8 (take (led_by bs) bs)
    go [] all e = absurd (omega (arith, ap length e, length-take n bs))
    go (c ∷ cs) all e =
        let is : scalar c ≡ true = grind arith in
        let long : 1 ≤ length (encode c) = omega (arith, length-encode c, len_utf8_bounds c) in
        let head : get_or bs 0 0 ≡ get_or (encode c) 0 0 = sym (get_or-take n bs 0 0 some) ∙ ap (λ xs. get_or xs 0 0) (sym e) ∙ get_or_append_left (encode c) (encode_utf8_all cs) 0 0 long in
        let same : led_by bs ≡ length (encode c) = ap (λ b. continuation_len b + 1) head ∙ led c in
        let total : length (encode c) + length (encode_utf8_all cs) ≡ length (take n bs) = sym (length-append (encode c) (encode_utf8_all cs)) ∙ ap length e in
        let within : led_by bs ≤ n = omega (arith, same, total, length-take n bs) in
        let inside : led_by bs ≤ length bs = omega (arith, same, total, length-take n bs) in
        let text : take (led_by bs) bs ≡ encode c =
        sym (take-take (led_by bs) n bs within) ∙ ap (take (led_by bs)) (sym e) ∙ ap (λ k. take k (encode c ++ encode_utf8_all cs)) same ∙ take-append_seam (encode c) (encode_utf8_all cs) in
        (within, inside, subst IsUtf8 (sym text) (IsUtf8-encode c is))

abbrev IsSize : ℕ → Type 0
IsSize n = (n ≡ 1) ⊎ ((n ≡ 2) ⊎ ((n ≡ 3) ⊎ (n ≡ 4)))

led-size : (b : ℕ) → IsSize (continuation_len b + 1)
led-size b = grind (arith, nat_tests)

-- the least number that passes, if none below a number passes, and none at all if it does not
module _ (f : ℕ → Bool) (w : ℕ) (h : (n : ℕ) → 1 ≤ n → f n ≡ true → (w ≤ n) × (f w ≡ true)) where
  fails : (n : ℕ) → 1 ≤ n → n < w → f n ≡ false
  fails n some lt = elim (cases_Bool (f n)) [ inl t ↦ absurd (omega (arith, (h n some t).0, lt)) | inr e ↦ e ]

  never : f w ≡ false → (n : ℕ) → 1 ≤ n → f n ≡ false
  never miss n some = elim (cases_Bool (f n)) [ inl t ↦ absurd (false≢true (sym miss ∙ (h n some t).1)) | inr e ↦ e ]

  pick : IsSize w → unwrap_or (find f (1 ∷ 2 ∷ 3 ∷ 4 ∷ [])) 1 ≡ cond (f w) w 1
  pick size = elim (cases_Bool (f w)) [
    | inl hit ↦ elim size [
      | inl is ↦ let here : f 1 ≡ true = subst (λ k. f k ≡ true) is hit in rw (hit, here) (sym is)
      | inr more ↦ elim more [
        | inl is ↦ let here : f 2 ≡ true = subst (λ k. f k ≡ true) is hit in rw (hit, fails 1 (omega arith) (omega arith), here) (sym is)
        | inr most ↦ elim most [
          | inl is ↦ let here : f 3 ≡ true = subst (λ k. f k ≡ true) is hit in rw (hit, fails 1 (omega arith) (omega arith), fails 2 (omega arith) (omega arith), here) (sym is)
          | inr is ↦ let here : f 4 ≡ true = subst (λ k. f k ≡ true) is hit in
              rw (hit, fails 1 (omega arith) (omega arith), fails 2 (omega arith) (omega arith), fails 3 (omega arith) (omega arith), here) (sym is)
        ]
      ]
    ]
    | inr miss ↦ rw (miss, never miss 1 (omega arith), never miss 2 (omega arith), never miss 3 (omega arith), never miss 4 (omega arith)) refl
  ]

-- the size of the first character is what its first byte tells, if these bytes are UTF-8, and else one
pub first-size : (bs : List ℕ) → 0 < length bs → first_size bs ≡ cond (is_utf8 (take (led_by bs) bs)) (led_by bs) 1
first-size bs full = pick (λ n. is_utf8 (take n bs)) (led_by bs)
    (λ n some text. let f = front bs n some full (IsUtf8-from_is_utf8 (take n bs) text) in (f.0, is_utf8-from_IsUtf8 (take (led_by bs) bs) f.2))
    (led-size (get_or bs 0 0))

-- if the bytes that the first byte tells are UTF-8, there are as many
pub led-within : (bs : List ℕ) → 0 < length bs → is_utf8 (take (led_by bs) bs) ≡ true → led_by bs ≤ length bs
led-within bs full text = (front bs (led_by bs) (omega arith) full (IsUtf8-from_is_utf8 (take (led_by bs) bs) text)).1
