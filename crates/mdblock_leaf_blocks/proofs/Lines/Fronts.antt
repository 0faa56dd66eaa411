-- The bytes in front that pass a test, and those behind them: a list without its prefix, as a recursion on the list.
use Rattle.mdblock_leaf_blocks.proofs.Prelude.{◌≡◌, ℕ, suc, ◌+◌, ◌≤◌, List, [], ◌∷◌, ◌++◌, Bool, true, false, cond, length, refl, ap, ◌∙◌, arith, take, drop, sym, not, drop-append_seam, AllByRecursion, drop-map, prefix_len, Seat, bytes_of, is_white}

-- no white space
abbrev pub is_dark : ℕ → Bool
is_dark b = not (is_white b)

module _ (test : ℕ → Bool) where
  abbrev pub front : List Seat → List Seat
  front [] = []
  front (s ∷ ss) = cond (test s.byte) (s ∷ front ss) []

  abbrev pub back : List Seat → List Seat
  back [] = []
  back (s ∷ ss) = cond (test s.byte) (back ss) (s ∷ ss)

  pub front-back : (l : List Seat) → front l ++ back l ≡ l
  front-back [] = refl
  front-back (s ∷ ss) = elim (test s.byte) as (λ b. cond b (s ∷ front ss) [] ++ cond b (back ss) (s ∷ ss) ≡ s ∷ ss) [
    | true ↦ ap (λ l. s ∷ l) (front-back ss)
    | false ↦ refl
  ]

  pub prefix-grows : (b : ℕ) (bs : List ℕ) → prefix_len test (b ∷ bs) ≡ cond (test b) (suc (prefix_len test bs)) 0
  prefix-grows b bs = let e : 1 + prefix_len test bs ≡ suc (prefix_len test bs) = omega arith in ap (λ n. cond (test b) n 0) e

  pub take-front : (l : List Seat) → take (prefix_len test (bytes_of l)) l ≡ front l
  take-front [] = refl
  take-front (s ∷ ss) = ap (λ n. take n (s ∷ ss)) (prefix-grows s.byte (bytes_of ss)) ∙ (elim (test s.byte) as (λ b. take (cond b (suc (prefix_len test (bytes_of ss))) 0) (s ∷ ss) ≡ cond b (s ∷ front ss) []) [
    | true ↦ ap (λ l. s ∷ l) (take-front ss)
    | false ↦ refl
  ])

  pub drop-back : (l : List Seat) → drop (prefix_len test (bytes_of l)) l ≡ back l
  drop-back [] = refl
  drop-back (s ∷ ss) = ap (λ n. drop n (s ∷ ss)) (prefix-grows s.byte (bytes_of ss)) ∙ (elim (test s.byte) as (λ b. drop (cond b (suc (prefix_len test (bytes_of ss))) 0) (s ∷ ss) ≡ cond b (back ss) (s ∷ ss)) [
    | true ↦ drop-back ss
    | false ↦ refl
  ])

  pub drop-bytes : (l : List Seat) → drop (prefix_len test (bytes_of l)) (bytes_of l) ≡ bytes_of (back l)
  drop-bytes l = drop-map (λ (s : Seat). s.byte) (prefix_len test (bytes_of l)) l ∙ ap bytes_of (drop-back l)

  pub front-all : (l : List Seat) → AllByRecursion (λ (s : Seat). test s.byte ≡ true) (front l)
  front-all [] = tt
  front-all (s ∷ ss) = elim (test s.byte) as (λ b. test s.byte ≡ b → AllByRecursion (λ (s : Seat). test s.byte ≡ true) (cond b (s ∷ front ss) [])) [
    | true ↦ λ e. (e, front-all ss)
    | false ↦ λ e. tt
  ] refl

  -- the next byte, if there is one, fails the test
  abbrev pub Fails : List Seat → Type 0
  Fails [] = Unit {0}
  Fails (s ∷ ss) = test s.byte ≡ false

  pub back-fails : (l : List Seat) → Fails (back l)
  back-fails [] = tt
  back-fails (s ∷ ss) = elim (test s.byte) as (λ b. test s.byte ≡ b → Fails (cond b (back ss) (s ∷ ss))) [
    | true ↦ λ e. back-fails ss
    | false ↦ λ e. e
  ] refl

  pub length-back : (l : List Seat) → length (back l) ≤ length l
  length-back [] = omega arith
  length-back (s ∷ ss) = let more = length-back ss in elim (test s.byte) as (λ b. length (cond b (back ss) (s ∷ ss)) ≤ suc (length ss)) [
    | true ↦ omega (arith, more)
    | false ↦ omega arith
  ]

  -- what holds of each byte holds of these
  pub all-front : (P : Seat → Type 0) (l : List Seat) → AllByRecursion P l → AllByRecursion P (front l)
  all-front P [] h = tt
  all-front P (s ∷ ss) h = elim (test s.byte) as (λ b. AllByRecursion P (cond b (s ∷ front ss) [])) [ true ↦ (h.0, all-front P ss h.1) | false ↦ tt ]

  pub all-back : (P : Seat → Type 0) (l : List Seat) → AllByRecursion P l → AllByRecursion P (back l)
  all-back P [] h = tt
  all-back P (s ∷ ss) h = elim (test s.byte) as (λ b. AllByRecursion P (cond b (back ss) (s ∷ ss))) [ true ↦ all-back P ss h.1 | false ↦ h ]

  -- what holds of bytes that pass the test, and of those behind them, holds of all
  pub all-with-front : (P : Seat → Type 0) → ((s : Seat) → test s.byte ≡ true → P s) → (l : List Seat) → AllByRecursion P (back l) → AllByRecursion P l
  all-with-front P passing [] h = tt
  all-with-front P passing (s ∷ ss) h = elim (test s.byte) as (λ b. test s.byte ≡ b → AllByRecursion P (cond b (back ss) (s ∷ ss)) → AllByRecursion P (s ∷ ss)) [
    | true ↦ λ e h. (passing s e, all-with-front P passing ss h)
    | false ↦ λ e h. h
  ] refl h

  -- the prefix is as long as the bytes in front
  pub prefix-front : (l : List Seat) → prefix_len test (bytes_of l) ≡ length (front l)
  prefix-front [] = refl
  prefix-front (s ∷ ss) = prefix-grows s.byte (bytes_of ss) ∙ (elim (test s.byte) as (λ b. cond b (suc (prefix_len test (bytes_of ss))) 0 ≡ length (cond b (s ∷ front ss) [])) [
    | true ↦ ap suc (prefix-front ss)
    | false ↦ refl
  ])

  pub length-front : (l : List Seat) → length (front l) ≡ prefix_len test (bytes_of l)
  length-front l = sym (prefix-front l)

  -- bytes that pass, before one that fails
  pub prefix-parts : (l rest : List Seat) → AllByRecursion (λ (s : Seat). test s.byte ≡ true) l → Fails rest → prefix_len test (bytes_of (l ++ rest)) ≡ length l
  prefix-parts [] [] all fails = refl
  prefix-parts [] (s ∷ ss) all fails = prefix-grows s.byte (bytes_of ss) ∙ ap (λ b. cond b (suc (prefix_len test (bytes_of ss))) 0) fails
  prefix-parts (s ∷ ss) rest all fails =
      prefix-grows s.byte (bytes_of (ss ++ rest)) ∙ ap (λ b. cond b (suc (prefix_len test (bytes_of (ss ++ rest)))) 0) all.0 ∙ ap suc (prefix-parts ss rest all.1 fails)

-- the bytes behind a part
pub bytes-behind : (l rest : List Seat) → drop (length l) (bytes_of (l ++ rest)) ≡ bytes_of rest
bytes-behind l rest = drop-map (λ (s : Seat). s.byte) (length l) (l ++ rest) ∙ ap bytes_of (drop-append_seam l rest)
