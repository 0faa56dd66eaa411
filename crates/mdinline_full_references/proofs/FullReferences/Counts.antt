-- What is counted of a label, byte by byte, says whether it is one.
use Rattle.std.proofs.Common.{ℕ, suc, ◌≡◌, ◌+◌, ◌==◌, ◌&&◌, ◌||◌, ◌++◌, not, nat_le, Bool, true, false, cond, List, [], ◌∷◌, take, Some, None, refl, sym, ap, ◌∙◌, subst, arith}
use Rattle.std.proofs.lemmas.Bool.Decides.{nat_tests}
use Rattle.std.proofs.lemmas.Bool.{or_parts}
use Rattle.mdinline_labels.specs.Labels.{begins_character, characters, has_no_bracket, hides, is_filled, is_label, is_label_white}
use Rattle.mdinline_labels.specs.Tails.{bare_behind, is_plain, label_size, marked_size, one_more as size_more}
use Rattle.mdinline_full_references.specs.FullReferenceRows.{filled_by, one_more, with_byte}

-- so many characters, of which no more than 1,000 are counted
abbrev pub capped : ℕ → ℕ
capped c = cond (nat_le c 999) c 1000

one-more-is : (c : ℕ) → one_more (capped c) ≡ capped (c + 1)
one-more-is c = grind (arith, nat_tests)

-- a number that says yes or no
abbrev pub flag : Bool → ℕ
flag t = cond t 1 0

-- one byte more
characters-more : (a : List ℕ) (b : ℕ) → characters (a ++ b ∷ []) ≡ characters a + cond (begins_character b) 1 0
characters-more [] b = omega arith
characters-more (c ∷ cs) b = omega (arith, characters-more cs b)

filled-more : (a : List ℕ) (b : ℕ) → is_filled (a ++ b ∷ []) ≡ (is_filled a || not (is_label_white b))
filled-more [] b = elim (is_label_white b) as (λ t. (not t || false) ≡ not t) [ true ↦ refl | false ↦ refl ]
filled-more (c ∷ cs) b = elim (is_label_white c) as (λ t. (not t || is_filled (cs ++ b ∷ [])) ≡ ((not t || is_filled cs) || not (is_label_white b))) [
  | true ↦ filled-more cs b
  | false ↦ refl
]

pub counts-byte : (a : List ℕ) (b : ℕ) → with_byte b (capped (characters a)) ≡ capped (characters (a ++ b ∷ []))
counts-byte a b =
    elim (begins_character b) as (λ t. characters (a ++ b ∷ []) ≡ characters a + cond t 1 0 → cond t (one_more (capped (characters a))) (capped (characters a)) ≡ capped (characters (a ++ b ∷ []))) [
      | true ↦ λ more. one-more-is (characters a) ∙ ap capped (sym more)
      | false ↦ λ more. let same : characters a ≡ characters (a ++ b ∷ []) = omega (arith, more) in ap capped same
    ] (characters-more a b)

pub fills : (a : List ℕ) (b : ℕ) → filled_by b (flag (is_filled a)) ≡ flag (is_filled (a ++ b ∷ []))
fills a b =
    elim (is_label_white b) as (λ t. is_filled (a ++ b ∷ []) ≡ (is_filled a || not t) → cond t (flag (is_filled a)) 1 ≡ flag (is_filled (a ++ b ∷ []))) [
      | true ↦ λ more. elim (is_filled a) as (λ f. is_filled (a ++ b ∷ []) ≡ (f || false) → flag f ≡ flag (is_filled (a ++ b ∷ []))) [ true ↦ λ h. ap flag (sym h) | false ↦ λ h. ap flag (sym h) ] more
      | false ↦ λ more. elim (is_filled a) as (λ f. is_filled (a ++ b ∷ []) ≡ (f || true) → 1 ≡ flag (is_filled (a ++ b ∷ []))) [ true ↦ λ h. ap flag (sym h) | false ↦ λ h. ap flag (sym h) ] more
    ] (filled-more a b)

-- whether it is a label
pub read-is : (c : ℕ) (t : Bool) → (nat_le (capped c) 999 && (flag t == 1)) ≡ (nat_le c 999 && t)
read-is c true = grind (arith, nat_tests)
read-is c false = grind (arith, nat_tests)

-- up to a bracket that is not hidden no such bracket is
no-bracket : (bare hidden : Bool) (bs : List ℕ) (n : ℕ) → marked_size 91 93 bare hidden bs ≡ Some n → has_no_bracket hidden (take n bs) ≡ true
no-bracket bare hidden [] n h = absurd (cc)
no-bracket bare hidden (b ∷ bs) n h =
    let more = marked_size 91 93 (bare_behind bare b) (hides hidden b) bs in
    elim (is_plain 93 hidden b) as (λ t. is_plain 93 hidden b ≡ t → cond t (Some 0) (cond (is_plain 91 hidden b || (bare && (b == 10))) None (size_more more)) ≡ Some n → has_no_bracket hidden (take n (b ∷ bs)) ≡ true) [
      | true ↦ λ last e. (let none : 0 ≡ n = cc in subst (λ k. has_no_bracket hidden (take k (b ∷ bs)) ≡ true) none refl)
      | false ↦ λ last. elim (is_plain 91 hidden b || (bare && (b == 10))) as (λ t. (is_plain 91 hidden b || (bare && (b == 10))) ≡ t → cond t None (size_more more) ≡ Some n → has_no_bracket hidden (take n (b ∷ bs)) ≡ true) [
        | true ↦ λ first e. absurd (cc)
        | false ↦ λ first.
            elim more as (λ o. more ≡ o → size_more o ≡ Some n → has_no_bracket hidden (take n (b ∷ bs)) ≡ true) [
              | None ↦ λ is e. absurd (cc)
              | Some m ↦ λ is e.
                  let same : m + 1 ≡ n = cc in
                  let one : suc m ≡ m + 1 = omega arith in
                  let plain = brackets hidden (b == 91) (b == 93) last (or_parts (is_plain 91 hidden b) (bare && (b == 10)) first).0 in
                  subst (λ k. has_no_bracket hidden (take k (b ∷ bs)) ≡ true) (one ∙ same)
                  (ap (λ t. not t && has_no_bracket (hides hidden b) (take m bs)) plain ∙ no-bracket (bare_behind bare b) (hides hidden b) bs m is)
            ] refl
      ] refl
    ] refl h
  where
    brackets : (hidden x y : Bool) → (y && not hidden) ≡ false → (x && not hidden) ≡ false → ((x || y) && not hidden) ≡ false
    brackets true true y h k = refl
    brackets true false y h k = h
    brackets false true y h k = k
    brackets false false y h k = h

-- so it is one by what is counted
pub label-is : (bs : List ℕ) (n : ℕ) → label_size bs ≡ Some n → is_label (take n bs) ≡ (nat_le (characters (take n bs)) 999 && is_filled (take n bs))
label-is bs n h = ap (λ t. t && (nat_le (characters (take n bs)) 999 && is_filled (take n bs))) (no-bracket false false bs n h)
