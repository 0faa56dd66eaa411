-- Where places are shown in a document, and in its parts.
use Rattle.mddocument_parts.proofs.Prelude.{◌≡◌, ℕ, zero, suc, ◌+◌, ◌-◌, ◌<◌, ◌≤◌, ◌==◌, ◌&&◌, ◌||◌, List, [], ◌∷◌, ◌++◌, Bool, true, false, cond, not, length, refl, sym, ap, ◌∙◌, nat_lt, ltb-true, ltb-false, arith, slice_index, AllByRecursion, get_or-append-add, get_or_append_left, get_or_past, and-false, Point, begins_line, moved_point, follows_cr, shown, Seat, point, virtual_from}
use Rattle.std.proofs.lemmas.Bool.{false≢true}
use Rattle.std.proofs.lemmas.Bool.Decides.{nat_tests}
use Rattle.mddocument_parts.proofs.Virtual.{IsNear, near}
use Rattle.markdown_base.proofs.Common.{every-map}

-- an index is between a CR and its LF
abbrev pub is_torn : List ℕ → ℕ → Bool
is_torn bytes i = (slice_index bytes i == 10) && follows_cr bytes i

-- where a line begins no CR LF is torn
not-both : (x y : ℕ) → ((x == 10) || ((x == 13) && not (y == 10))) ≡ true → ((y == 10) && (x == 13)) ≡ false
not-both x y h = grind (arith, nat_tests)

pub line-untorn : (a b : List ℕ) → begins_line b a ≡ true → is_torn (a ++ b) (length a) ≡ false
line-untorn [] b h = and-false (slice_index b 0 == 10)
line-untorn (x ∷ a) b h = by b x a h
  where
    by : (b : List ℕ) (x : ℕ) (a : List ℕ) → begins_line b (x ∷ a) ≡ true → ((slice_index (x ∷ a ++ b) (suc (length a)) == 10) && (slice_index (x ∷ a ++ b) (length a) == 13)) ≡ false
    by [] x [] h = refl
    by (y ∷ b) x [] h = not-both x y h
    by b x (y ∷ a) h = by b y a h

behind : (a b : List ℕ) (j : ℕ) → slice_index (a ++ b) (j + length a) ≡ slice_index b j
behind a b j = let e : j + length a ≡ length a + j = omega arith in ap (slice_index (a ++ b)) e ∙ get_or-append-add a b j 0

some-index : (bytes : List ℕ) (i : ℕ) → is_torn bytes i ≡ true → 1 ≤ i
some-index bytes zero h = absurd (false≢true (sym (and-false (slice_index bytes 0 == 10)) ∙ h))
some-index bytes (suc i) h = omega arith

-- two parts, with no CR LF torn between them
module _ (a b : List ℕ) (clean : is_torn (a ++ b) (length a) ≡ false) where
  torn-end : is_torn a (length a) ≡ false
  torn-end = let past = get_or_past a (length a) 0 (omega arith) in ap (λ x. (x == 10) && follows_cr a (length a)) past

  torn-inside : (i : ℕ) → i < length a → is_torn (a ++ b) i ≡ is_torn a i
  torn-inside zero h = and-false (slice_index (a ++ b) 0 == 10) ∙ sym (and-false (slice_index a 0 == 10))
  torn-inside (suc j) h =
      let here = get_or_append_left a b 0 (suc j) h in
      let before = get_or_append_left a b 0 j (omega (arith, h)) in
      (λ d. (here d == 10) && (before d == 13))

  torn-front : (i : ℕ) → i ≤ length a → is_torn (a ++ b) i ≡ is_torn a i
  torn-front i h = elim (nat_lt i (length a)) as (λ c. nat_lt i (length a) ≡ c → is_torn (a ++ b) i ≡ is_torn a i) [
    | true ↦ λ e. torn-inside i (ltb-true i (length a) e)
    | false ↦ λ e. let more = ltb-false i (length a) e in let same : i ≡ length a = omega (arith, h, more) in rw same (clean ∙ sym torn-end)
  ] refl

  torn-behind : (i : ℕ) → is_torn (a ++ b) (i + length a) ≡ is_torn b i
  torn-behind zero = let e : 0 + length a ≡ length a = omega arith in ap (is_torn (a ++ b)) e ∙ clean ∙ sym (and-false (slice_index b 0 == 10))
  torn-behind (suc j) =
      let k : suc j + length a ≡ suc (j + length a) = omega arith in
      let here : slice_index (a ++ b) (suc (j + length a)) ≡ slice_index b (suc j) = ap (slice_index (a ++ b)) (sym k) ∙ behind a b (suc j) in
      let before = behind a b j in
      ap (is_torn (a ++ b)) k ∙ (λ d. (here d == 10) && (before d == 13))

  -- what is shown before, or at the end of the first part
  pub shown-front : (p : Point) → p.index ≤ length a → shown (a ++ b) p ≡ shown a p
  shown-front p l = ap (λ c. cond c (point p.line p.column (p.index - 1) p.vs) p) (torn-front p.index l)

  pub shown-behind : (l : ℕ) (p : Point) → shown (a ++ b) (moved_point l (length a) p) ≡ moved_point l (length a) (shown b p)
  shown-behind l p =
      ap (λ c. cond c (point (p.line + l) p.column ((p.index + length a) - 1) p.vs) (point (p.line + l) p.column (p.index + length a) p.vs)) (torn-behind p.index)
      ∙ by (is_torn b p.index) (λ e. some-index b p.index e)
    where
      by : (c : Bool) → (c ≡ true → 1 ≤ p.index)
          → cond c (point (p.line + l) p.column ((p.index + length a) - 1) p.vs) (point (p.line + l) p.column (p.index + length a) p.vs) ≡ moved_point l (length a) (cond c (point p.line p.column (p.index - 1) p.vs) p)
      by true f = let some = f refl in let e : (p.index + length a) - 1 ≡ (p.index - 1) + length a = omega (arith, some) in (λ d. point (p.line + l) p.column (e d) p.vs)
      by false f = refl

-- ---- virtual bytes stand in their document

module _ (t most : ℕ) where
  abbrev pub IsWithin : Seat → Type 0
  IsWithin s = (s.point.index ≤ most) × (s.end.index ≤ most)

  pub within : (a : List ℕ) (line column index : ℕ) → index + length a ≤ most → AllByRecursion IsWithin (virtual_from t line column index a)
  within a line column index l = every-map (IsNear most) IsWithin (λ s n. (omega (arith, n.0), omega (arith, n.0, n.1))) (virtual_from t line column index a) (near t most a line column index l)
