-- White space with at most one line ending, byte by byte.
use Rattle.std.proofs.Common.{ℕ, suc, ◌+◌, ◌≤◌, ◌≡◌, ◌∙◌, ◌∷◌, ◌||◌, ◌&&◌, ◌==◌, not, Bool, true, false, cond, List, [], drop, length, refl, sym, ap, subst, arith}
use Rattle.std.proofs.lemmas.Bool.{false≢true}
use Rattle.std.specs.List.{prefix_len}
use Rattle.markdown_base.proofs.Facts.Numbers.{unlike}
use Rattle.mdinline_labels.specs.Tails.{begins_with, gap, is_white}

-- white space, or a line ending
abbrev pub is_gap : ℕ → Bool
is_gap b = is_white b || (b == 10)

-- a byte goes on in it; at most one line ending may come
abbrev pub goes_on : (line : Bool) → ℕ → Bool
goes_on line b = is_white b || (line && (b == 10))

-- whether a line ending may still come behind it
abbrev pub line_behind : (line : Bool) → ℕ → Bool
line_behind line b = line && not (b == 10)

abbrev pub gap_from : (line : Bool) → List ℕ → ℕ
gap_from line [] = 0
gap_from line (b ∷ bs) = cond (goes_on line b) (1 + gap_from (line_behind line b) bs) 0

-- by the two tests of a byte
abbrev from_by : (white ends line : Bool) → List ℕ → ℕ
from_by white ends line bs = cond (white || (line && ends)) (1 + gap_from (line && not ends) bs) 0

-- without a line ending
white-alone : (bs : List ℕ) → gap_from false bs ≡ prefix_len is_white bs
white-alone [] = refl
white-alone (b ∷ bs) = elim (is_white b) as (λ w. from_by w (b == 10) false bs ≡ cond w (1 + prefix_len is_white bs) 0) [
  | true ↦ ap (λ n. 1 + n) (white-alone bs)
  | false ↦ refl
]

abbrev gap_by : (n : ℕ) → List ℕ → ℕ
gap_by n bs = cond (begins_with 10 (drop n bs)) (n + 1 + prefix_len is_white (drop (n + 1) bs)) n

abbrev by_lists : (n : ℕ) → (front behind : List ℕ) → ℕ
by_lists n front behind = cond (begins_with 10 front) (n + 1 + prefix_len is_white behind) n

more-by : (n : ℕ) (b : ℕ) (bs : List ℕ) → gap_by (1 + n) (b ∷ bs) ≡ 1 + gap_by n bs
more-by n b bs =
    let one : 1 + n ≡ suc n = omega arith in
    let two : 1 + n + 1 ≡ suc (n + 1) = omega arith in
    ap (λ k. by_lists (1 + n) (drop k (b ∷ bs)) (drop (1 + n + 1) (b ∷ bs))) one ∙ ap (λ k. by_lists (1 + n) (drop n bs) (drop k (b ∷ bs))) two
    ∙ elim (begins_with 10 (drop n bs)) as (λ t. cond t (1 + n + 1 + prefix_len is_white (drop (n + 1) bs)) (1 + n) ≡ 1 + cond t (n + 1 + prefix_len is_white (drop (n + 1) bs)) n) [ true ↦ omega arith | false ↦ refl ]

pub gap-is : (bs : List ℕ) → gap bs ≡ gap_from true bs
gap-is [] = refl
gap-is (b ∷ bs) = elim (is_white b) as (λ w. is_white b ≡ w → gap_by (cond w (1 + prefix_len is_white bs) 0) (b ∷ bs) ≡ from_by w (b == 10) true bs) [
  | true ↦ λ w. more-by (prefix_len is_white bs) b bs ∙ ap (λ n. 1 + n) (gap-is bs) ∙ sym (ap (λ e. 1 + gap_from (not e) bs) (unlike is_white 10 refl b w))
  | false ↦ λ w. elim (b == 10) as (λ t. cond t (1 + prefix_len is_white bs) 0 ≡ cond t (1 + gap_from (not t) bs) 0) [ true ↦ ap (λ n. 1 + n) (sym (white-alone bs)) | false ↦ refl ]
] refl

-- ---- white space behind bytes of one kind
-- all white space behind the bytes that pass a test
abbrev pub gaps_behind : (ℕ → Bool) → List ℕ → ℕ
gaps_behind f [] = 0
gaps_behind f (b ∷ bs) = cond (f b) (gap bs) 0 + gaps_behind f bs

-- what goes on in white space is no byte but white space
pub goes-gap : (line : Bool) (b : ℕ) → goes_on line b ≡ true → is_gap b ≡ true
goes-gap line b h = elim line as (λ l. (is_white b || (l && (b == 10))) ≡ true → is_gap b ≡ true) [ true ↦ λ h. h | false ↦ λ h. grind (arith) ] h

module _ (f : ℕ → Bool) (black : (b : ℕ) → f b ≡ true → is_gap b ≡ false) where
  white-none : (b : ℕ) → is_gap b ≡ true → f b ≡ false
  white-none b g = elim (f b) as (λ t. f b ≡ t → t ≡ false) [ true ↦ λ e. absurd (false≢true (sym (black b e) ∙ g)) | false ↦ λ e. refl ] refl

  -- where some is being passed
  passing : (line : Bool) (bs : List ℕ) → gap_from line bs + gaps_behind f bs ≤ length bs
  passing line [] = omega arith
  passing line (b ∷ bs) = elim (goes_on line b) as (λ t. goes_on line b ≡ t → cond t (1 + gap_from (line_behind line b) bs) 0 + (cond (f b) (gap bs) 0 + gaps_behind f bs) ≤ suc (length bs)) [
    | true ↦ λ e. subst (λ t. 1 + gap_from (line_behind line b) bs + (cond t (gap bs) 0 + gaps_behind f bs) ≤ suc (length bs)) (sym (white-none b (goes-gap line b e))) (omega (arith, passing (line_behind line b) bs))
    | false ↦ λ e. elim (f b) as (λ t. 0 + (cond t (gap bs) 0 + gaps_behind f bs) ≤ suc (length bs)) [ true ↦ omega (arith, passing true bs, gap-is bs) | false ↦ omega (arith, passing true bs) ]
  ] refl

  -- Together they are no longer than the text
  pub gaps-within : (bs : List ℕ) → gaps_behind f bs ≤ length bs
  gaps-within bs = omega (arith, passing true bs)
