-- Parts of a text, as they are cut from it: each is a byte at least, and the same if the text is cut behind it.
use Rattle.mdinline_text_machine.proofs.Prelude.{◌≡◌, ℕ, zero, suc, ◌+◌, ◌-◌, ◌<◌, ◌≤◌, ◌∷◌, [], List, Bool, true, false, cond, not, ◌==◌, refl, sym, ◌∙◌, ap, arith, take, drop, max, drop-take, take-take, take-map, prefix_len, position_or_len, Seat, Part, line_ending, plain_run, is_backtick, is_backtick_or_line_feed, backticks, part_length, part_at, plain_length, bytes_of, cut}

-- a prefix is as long if the list is cut behind it
pub prefix-within : {X : Type 0} (p : X → Bool) (n : ℕ) (xs : List X) → prefix_len p xs ≤ n → prefix_len p (take n xs) ≡ prefix_len p xs
prefix-within p zero xs h = omega (arith, h)
prefix-within p (suc n) [] h = refl
prefix-within p (suc n) (x ∷ xs) h = elim (p x) as (λ t. cond t (1 + prefix_len p xs) 0 ≤ suc n → cond t (1 + prefix_len p (take n xs)) 0 ≡ cond t (1 + prefix_len p xs) 0) [
  | true ↦ λ i. ap (λ m. 1 + m) (prefix-within p n xs (omega (arith, i)))
  | false ↦ λ i. refl
] h

-- each piece is at least a byte
pub piece-positive : (ends : ℕ → Bool) (b : ℕ) (bs : List ℕ) → 0 < part_length (part_at ends (b ∷ bs))
piece-positive ends b bs = elim (b == 10) as (λ t. 0 < part_length (cond t line_ending (plain_run (plain_length ends (b ∷ bs))))) [
  | true ↦ omega arith
  | false ↦ omega arith
]

-- plain text is as long if the text is cut behind it
pub plain-within : (ends : ℕ → Bool) (text : List ℕ) (n : ℕ) → plain_length ends text ≤ suc n → plain_length ends (take (suc n) text) ≡ plain_length ends text
plain-within ends text n h =
    let r = max 1 (backticks text) in
    let d = position_or_len ends (drop r text) in
    let rest : r + (suc n - r) ≡ suc n = omega (arith, h) in
    let runs : backticks (take (suc n) text) ≡ backticks text = prefix-within is_backtick (suc n) text (omega (arith, h)) in
    let tail : drop r (take (suc n) text) ≡ take (suc n - r) (drop r text) = ap (λ m. drop r (take m text)) (sym rest) ∙ drop-take r (suc n - r) text in
    let ended : position_or_len ends (drop r (take (suc n) text)) ≡ d =
    ap (position_or_len ends) tail ∙ prefix-within (λ x. not (ends x)) (suc n - r) (drop r text) (omega (arith, h)) in
    ap (λ m. max 1 m + position_or_len ends (drop (max 1 m) (take (suc n) text))) runs ∙ ap (λ m. r + m) ended

-- a piece is the same if the text is cut behind it
pub piece-within : (ends : ℕ → Bool) (b : ℕ) (bs : List ℕ) (n : ℕ) → part_length (part_at ends (b ∷ bs)) ≤ suc n → part_at ends (take (suc n) (b ∷ bs)) ≡ part_at ends (b ∷ bs)
piece-within ends b bs n h =
    elim (b == 10) as (λ t. part_length (cond t line_ending (plain_run (plain_length ends (b ∷ bs)))) ≤ suc n
    → cond t line_ending (plain_run (plain_length ends (take (suc n) (b ∷ bs)))) ≡ cond t line_ending (plain_run (plain_length ends (b ∷ bs)))) [
      | true ↦ λ i. refl
      | false ↦ λ i. ap plain_run (plain-within ends (b ∷ bs) n i)
    ] h
