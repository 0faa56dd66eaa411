-- Ends of literals: letters before an index, and what falls off.
use Rattle.std.proofs.Common.{◌≡◌, ℕ, zero, suc, ◌+◌, ◌-◌, ◌<◌, ◌≤◌, true, false, cond, List, sym, ap, ◌∙◌, arith, subst, ne_eqb}
use Rattle.std.specs.Char.{is_ascii_alphabetic}
use Rattle.std.specs.Prelude.{◌==◌, nat_lt, slice_index}
use Rattle.mdgfm_literals.specs.Grammar.{closing_before, left, letters_before, off}

-- what falls off anyway was there before
pub left-skip : (text : List ℕ) (opening closing skip size : ℕ) → left text opening closing skip size ≡ left text opening closing 0 (size - skip)
left-skip text o c zero size = let z : size ≡ size - 0 = omega arith in ap (λ n. left text o c 0 n) z
left-skip text o c (suc skip) zero = let z : 0 ≡ 0 - suc skip = omega arith in ap (λ n. left text o c 0 n) z
left-skip text o c (suc skip) (suc size) = let z : size - skip ≡ suc size - suc skip = omega arith in left-skip text o c skip size ∙ ap (λ n. left text o c 0 n) z

-- nothing falls off
pub left_none : (text : List ℕ) (o c size : ℕ) → 0 < size → off (nat_lt o c) text (size - 1) ≡ 0 → left text o c 0 size ≡ size
left_none text o c zero some e = absurd (omega (arith, some))
left_none text o c (suc n) some e =
    let one : suc n - 1 ≡ n = omega arith in
    let none : off (nat_lt o c) text n ≡ 0 = sym (ap (off (nat_lt o c) text) one) ∙ e in
    let last : n + 1 ≡ suc n = omega arith in
    ap (λ k. cond (k == 0) (n + 1) (left text o (closing_before c (slice_index text n)) (k - 1) n)) none ∙ last

-- so many bytes fall off
pub left_some : (text : List ℕ) (o c size : ℕ) → 0 < size → 1 ≤ off (nat_lt o c) text (size - 1)
    → left text o c 0 size ≡ left text o (closing_before c (slice_index text (size - 1))) 0 (size - off (nat_lt o c) text (size - 1))
left_some text o c zero some e = absurd (omega (arith, some))
left_some text o c (suc n) some e =
    let one : suc n - 1 ≡ n = omega arith in
    subst (λ m. 1 ≤ off (nat_lt o c) text m → left text o c 0 (suc n) ≡ left text o (closing_before c (slice_index text m)) 0 (suc n - off (nat_lt o c) text m)) (sym one) (by (off (nat_lt o c) text n)) e
  where
    d : ℕ
    d = closing_before c (slice_index text n)

    by : (k : ℕ) → 1 ≤ k → cond (k == 0) (n + 1) (left text o d (k - 1) n) ≡ left text o d 0 (suc n - k)
    by zero h = absurd (omega (arith, h))
    by (suc k) h =
        let less : suc k - 1 ≡ k = omega arith in
        let rest : n - k ≡ suc n - suc k = omega arith in
        let some : (suc k == 0) ≡ false = ne_eqb (suc k) 0 (λ q. omega (arith, q)) in
        ap (λ t. cond t (n + 1) (left text o d (suc k - 1) n)) some ∙ ap (λ m. left text o d m n) less ∙ left-skip text o d k n ∙ ap (λ m. left text o d 0 m) rest

-- one letter more, or none
pub letters_more : (text : List ℕ) (at : ℕ) → 0 < at → is_ascii_alphabetic (slice_index text (at - 1)) ≡ true → letters_before text at ≡ letters_before text (at - 1) + 1
letters_more text zero some e = absurd (omega (arith, some))
letters_more text (suc n) some e =
    let one : suc n - 1 ≡ n = omega arith in
    let here : is_ascii_alphabetic (slice_index text n) ≡ true = sym (ap (λ m. is_ascii_alphabetic (slice_index text m)) one) ∙ e in
    ap (λ b. cond b (letters_before text n + 1) 0) here ∙ ap (λ m. letters_before text m + 1) (sym one)

pub letters_end : (text : List ℕ) (at : ℕ) → 0 < at → is_ascii_alphabetic (slice_index text (at - 1)) ≡ false → letters_before text at ≡ 0
letters_end text zero some e = absurd (omega (arith, some))
letters_end text (suc n) some e =
    let one : suc n - 1 ≡ n = omega arith in
    let here : is_ascii_alphabetic (slice_index text n) ≡ false = sym (ap (λ m. is_ascii_alphabetic (slice_index text m)) one) ∙ e in
    ap (λ b. cond b (letters_before text n + 1) 0) here
