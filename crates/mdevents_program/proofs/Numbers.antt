-- The digits of a number, three at a time.
use Rattle.mdevents_program.proofs.Prelude.{sym, lit<, lt_trans, length-decimal-le, ◌≡◌, ℕ, ◌+◌, ◌-◌, ◌/◌, ◌%◌, ◌^◌, ◌<◌, ◌≤◌, Bool, true, false, cond, List, [], ◌∷◌, ◌++◌, length, get_or, take, map, refl, ap, ◌∙◌, arith, append_assoc, length-append, decimal_digit, decimal_step, decimal, nat_lt, range_with_len, get_or-map-range_with_len, ltb-true, ltb-false, three_digits, NUMBERS, THREES}

-- what the first table has of a number: its digits, spaces up to three bytes, and the digit of how many they are
abbrev pub small : ℕ → List ℕ
small n =
    cond (nat_lt n 10) ((48 + n) ∷ 32 ∷ 32 ∷ 49 ∷ [])
    (cond (nat_lt n 100) ((48 + n / 10) ∷ (48 + n % 10) ∷ 32 ∷ 50 ∷ []) ((48 + n / 100) ∷ (48 + n / 10 % 10) ∷ (48 + n % 10) ∷ 51 ∷ []))

-- and the second: its three digits, and a space
abbrev pub padded : ℕ → List ℕ
padded n = three_digits n ++ 32 ∷ []

-- the tables have these of all numbers below 1,000
small-table : NUMBERS ≡ map small (range_with_len 0 1000)
small-table = refl

padded-table : THREES ≡ map padded (range_with_len 0 1000)
padded-table = refl

pub small-at : (n : ℕ) (d : List ℕ) → n < 1000 → get_or NUMBERS n d ≡ small n
small-at n d h = ap (λ table. get_or table n d) small-table ∙ get_or-map-range_with_len small 0 1000 n n d h (omega arith)

pub padded-at : (n : ℕ) (d : List ℕ) → n < 1000 → get_or THREES n d ≡ padded n
padded-at n d h = ap (λ table. get_or table n d) padded-table ∙ get_or-map-range_with_len padded 0 1000 n n d h (omega arith)

-- a number of two digits, and one of three
decimal-two : (n : ℕ) → 10 ≤ n → n < 100 → decimal n ≡ (48 + n / 10) ∷ (48 + n % 10) ∷ []
decimal-two n lo hi = rw (decimal_step n lo (omega arith), decimal_digit (n / 10) (omega arith))

decimal-three : (n : ℕ) → 100 ≤ n → n < 1000 → decimal n ≡ three_digits n
decimal-three n lo hi =
    let e : n / 10 / 10 ≡ n / 100 = omega arith in
    rw (decimal_step n (omega arith) (omega arith), decimal-two (n / 10) (omega arith) (omega arith), e)

-- what the first table has of a number are its digits
abbrev HasDigits : (n : ℕ) → List ℕ → Type 0
HasDigits n entry = (take (get_or entry 3 0 - 48) entry ≡ decimal n) × (get_or entry 3 0 ≡ 48 + length (decimal n)) × (get_or entry 3 0 ≤ 51)

by-size : (n : ℕ) (one two : Bool) → n < 1000 → nat_lt n 10 ≡ one → nat_lt n 100 ≡ two → HasDigits n (small n)
by-size n true two h e f = let is = decimal_digit n (ltb-true n 10 e) in rw (e, is) (refl, refl, omega arith)
by-size n false true h e f = let is = decimal-two n (ltb-false n 10 e) (ltb-true n 100 f) in rw (e, f, is) (refl, refl, omega arith)
by-size n false false h e f = let is = decimal-three n (ltb-false n 100 f) h in rw (e, f, is) (refl, refl, omega arith)

pub small-is : (n : ℕ) → n < 1000 → HasDigits n (small n)
small-is n h = by-size n (nat_lt n 10) (nat_lt n 100) h refl refl

-- a number of more digits: the last three are those of its rest by 1,000
pub decimal-more : (n : ℕ) → 1000 ≤ n → n < 2 ^ 64 → decimal n ≡ decimal (n / 1000) ++ three_digits (n % 1000)
decimal-more n lo hi =
    let a : n / 10 / 10 / 10 ≡ n / 1000 = omega arith in
    let b : n / 10 / 10 % 10 ≡ n % 1000 / 100 = omega arith in
    let c : n / 10 % 10 ≡ n % 1000 / 10 % 10 = omega arith in
    let d : n % 10 ≡ n % 1000 % 10 = omega arith in
    rw (decimal_step n (omega arith) hi, decimal_step (n / 10) (omega arith) (omega arith), decimal_step (n / 10 / 10) (omega arith) (omega arith), append_assoc, append_assoc, a, b, c, ← d)

-- and how many digits it has
pub length-more : (n : ℕ) → 1000 ≤ n → n < 2 ^ 64 → length (decimal n) ≡ length (decimal (n / 1000)) + 3
length-more n lo hi = ap length (decimal-more n lo hi) ∙ length-append _ _

-- what is put behind the digits in front are the digits of a number
pub joined-digits : (n : ℕ) (a b c : List ℕ) → 1000 ≤ n → n < 2 ^ 64 → b ≡ a ++ decimal (n / 1000) → c ≡ b ++ three_digits (n % 1000) → c ≡ a ++ decimal n
joined-digits n a b c lo fits e f =
    f ∙ ap (λ x. x ++ three_digits (n % 1000)) e ∙ append_assoc a (decimal (n / 1000)) (three_digits (n % 1000)) ∙ ap (λ x. a ++ x) (sym (decimal-more n lo fits))

-- a number has at most twenty digits
pub at-most-twenty : (n : ℕ) → n < 2 ^ 64 → length (decimal n) ≤ 20
at-most-twenty n fits =
    let wide : 18446744073709551616 < 10 ^ 20 = lit< tt in
    length-decimal-le 20 n (lit< tt) (lt_trans fits wide) fits
