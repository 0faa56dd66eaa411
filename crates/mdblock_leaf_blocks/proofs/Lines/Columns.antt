-- White space in front, of so many columns at most, and what is behind it.
use Rattle.mdblock_leaf_blocks.proofs.Prelude.{List, [], ap, arith, cond, drop, false, inl, inr, length, min, refl, subst, suc, sym, take, true, zero, ℕ, ◌&&◌, ◌++◌, ◌∙◌, ◌∷◌, ◌≡◌, ◌≤◌, ◌⊎◌, AllByRecursion, Seat, bytes_of, indent, is_blank_line, IsInLine, is_white}
use Rattle.mdblock_leaf_blocks.proofs.Lines.Fronts.{Fails, prefix-grows}
use Rattle.mdblock_leaf_blocks.proofs.Lines.LineParts.{IsWhite}

abbrev pub front_upto : ℕ → List Seat → List Seat
front_upto zero l = []
front_upto (suc m) [] = []
front_upto (suc m) (s ∷ ss) = cond (is_white s.byte) (s ∷ front_upto m ss) []

abbrev pub back_upto : ℕ → List Seat → List Seat
back_upto zero l = l
back_upto (suc m) [] = []
back_upto (suc m) (s ∷ ss) = cond (is_white s.byte) (back_upto m ss) (s ∷ ss)

pub upto-whole : (m : ℕ) (l : List Seat) → front_upto m l ++ back_upto m l ≡ l
upto-whole zero l = refl
upto-whole (suc m) [] = refl
upto-whole (suc m) (s ∷ ss) = elim (is_white s.byte) as (λ w. cond w (s ∷ front_upto m ss) [] ++ cond w (back_upto m ss) (s ∷ ss) ≡ s ∷ ss) [
  | true ↦ ap (λ l. s ∷ l) (upto-whole m ss)
  | false ↦ refl
]

pub upto-white : (m : ℕ) (l : List Seat) → AllByRecursion IsWhite (front_upto m l)
upto-white zero l = tt
upto-white (suc m) [] = tt
upto-white (suc m) (s ∷ ss) = elim (is_white s.byte) as (λ w. is_white s.byte ≡ w → AllByRecursion IsWhite (cond w (s ∷ front_upto m ss) [])) [
  | true ↦ λ e. (e, upto-white m ss)
  | false ↦ λ e. tt
] refl

pub upto-short : (m : ℕ) (l : List Seat) → length (front_upto m l) ≤ m
upto-short zero l = omega arith
upto-short (suc m) [] = omega arith
upto-short (suc m) (s ∷ ss) = elim (is_white s.byte) as (λ w. length (cond w (s ∷ front_upto m ss) []) ≤ suc m) [
  | true ↦ let less = upto-short m ss in omega (arith, less)
  | false ↦ omega arith
]

pub upto-stops : (m : ℕ) (l : List Seat) → (length (front_upto m l) ≡ m) ⊎ Fails is_white (back_upto m l)
upto-stops zero l = inl refl
upto-stops (suc m) [] = inr tt
upto-stops (suc m) (s ∷ ss) = elim (is_white s.byte) as (λ w. is_white s.byte ≡ w → (length (cond w (s ∷ front_upto m ss) []) ≡ suc m) ⊎ Fails is_white (cond w (back_upto m ss) (s ∷ ss))) [
  | true ↦ λ e. elim (upto-stops m ss) as (λ h. (suc (length (front_upto m ss)) ≡ suc m) ⊎ Fails is_white (back_upto m ss)) [ inl h ↦ inl (ap suc h) | inr h ↦ inr h ]
  | false ↦ λ e. inr e
] refl

pub upto-blank : (m : ℕ) (l : List Seat) → is_blank_line (bytes_of (back_upto m l)) ≡ is_blank_line (bytes_of l)
upto-blank zero l = refl
upto-blank (suc m) [] = refl
upto-blank (suc m) (s ∷ ss) = elim (is_white s.byte) as (λ w. is_white s.byte ≡ w → is_blank_line (bytes_of (cond w (back_upto m ss) (s ∷ ss))) ≡ (w && is_blank_line (bytes_of ss))) [
  | true ↦ λ e. upto-blank m ss
  | false ↦ λ e. ap (λ w. w && is_blank_line (bytes_of ss)) e
] refl

pub upto-in-line : (m : ℕ) (l : List Seat) → IsInLine l → IsInLine (back_upto m l)
upto-in-line zero l h = h
upto-in-line (suc m) [] h = tt
upto-in-line (suc m) (s ∷ ss) h = elim (is_white s.byte) as (λ w. IsInLine (cond w (back_upto m ss) (s ∷ ss))) [ true ↦ upto-in-line m ss h.1 | false ↦ h ]

pub upto-all : (P : Seat → Type 0) (m : ℕ) (l : List Seat) → AllByRecursion P l → AllByRecursion P (back_upto m l)
upto-all P zero l h = h
upto-all P (suc m) [] h = tt
upto-all P (suc m) (s ∷ ss) h = elim (is_white s.byte) as (λ w. AllByRecursion P (cond w (back_upto m ss) (s ∷ ss))) [ true ↦ upto-all P m ss h.1 | false ↦ h ]

pub take-upto : (m : ℕ) (l : List Seat) → (take (min m (indent (bytes_of l))) l ≡ front_upto m l) × (drop (min m (indent (bytes_of l))) l ≡ back_upto m l)
take-upto zero l = let none : min 0 (indent (bytes_of l)) ≡ 0 = omega arith in (ap (λ n. take n l) none, ap (λ n. drop n l) none)
take-upto (suc m) [] = let none : min (suc m) 0 ≡ 0 = omega arith in (ap (λ n. take {A = Seat} n []) none, ap (λ n. drop {A = Seat} n []) none)
take-upto (suc m) (s ∷ ss) =
    let n = indent (bytes_of ss) in
    let grown = prefix-grows is_white s.byte (bytes_of ss) in
    let one : min (suc m) (suc n) ≡ suc (min m n) = omega arith in
    let none : min (suc m) 0 ≡ 0 = omega arith in
    let (taken, left) = take-upto m ss in
    subst (λ i. (take (min (suc m) i) (s ∷ ss) ≡ front_upto (suc m) (s ∷ ss)) × (drop (min (suc m) i) (s ∷ ss) ≡ back_upto (suc m) (s ∷ ss))) (sym grown)
    (elim (is_white s.byte) as (λ w. (take (min (suc m) (cond w (suc n) 0)) (s ∷ ss) ≡ cond w (s ∷ front_upto m ss) []) × (drop (min (suc m) (cond w (suc n) 0)) (s ∷ ss) ≡ cond w (back_upto m ss) (s ∷ ss))) [
      | true ↦ (ap (λ i. take i (s ∷ ss)) one ∙ ap (λ l. s ∷ l) taken, ap (λ i. drop i (s ∷ ss)) one ∙ left)
      | false ↦ (ap (λ i. take i (s ∷ ss)) none, ap (λ i. drop i (s ∷ ss)) none)
    ])
