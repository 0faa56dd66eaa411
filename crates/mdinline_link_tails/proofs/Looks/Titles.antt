-- Tries for titles: of those with one mark never two are at a byte.
use Rattle.std.proofs.Common.{ℕ, suc, ◌+◌, ◌*◌, ◌≤◌, ◌≡◌, ◌∙◌, ◌∷◌, ◌||◌, ◌&&◌, ◌==◌, not, Bool, true, false, cond, List, [], length, refl, sym, ap, subst, arith}
use Rattle.std.proofs.lemmas.Bool.{false≢true}
use Rattle.std.proofs.Math.Bool.{and-false}
use Rattle.mdinline_labels.specs.Labels.{hides}
use Rattle.mdinline_labels.specs.Tails.{bare_behind, gap, is_plain}
use Rattle.mdinline_link_tails.proofs.Looks.Passed.{title_look}
use Rattle.mdinline_link_tails.proofs.Looks.Gaps.{gaps_behind, is_gap}

-- tries that begin with this mark, behind white space; `white`: a byte of it comes before the text
abbrev pub titles : (first last : ℕ) → (white : Bool) → List ℕ → ℕ
titles first last white [] = 0
titles first last white (b ∷ bs) = cond (white && (b == first)) (1 + title_look first last false false bs) 0 + titles first last (is_gap b) bs

-- white space behind what a mark closes
abbrev pub behind_marks : ℕ → List ℕ → ℕ
behind_marks last bs = gaps_behind (λ b. b == last) bs

-- a mark of titles
pub record IsMark (first last : ℕ) : Type 0 where
  pub first_black : (b : ℕ) → (b == first) ≡ true → is_gap b ≡ false
  pub last_black : (b : ℕ) → (b == last) ≡ true → is_gap b ≡ false

module _ (first last : ℕ) (mark : IsMark first last) where
  -- a try that goes on, or none
  abbrev pub Within : (going bare hidden white : Bool) → List ℕ → Type 0
  Within going bare hidden white bs = cond going (title_look first last bare hidden bs) 0 + titles first last white bs ≤ 2 * length bs + behind_marks last bs

  -- a byte hidden by a backslash has no white space before it
  abbrev pub Agree : (hidden white : Bool) → Type 0
  Agree hidden white = (hidden && white) ≡ false

  next-agrees : (hidden : Bool) (b : ℕ) → Agree (hides hidden b) (is_gap b)
  next-agrees hidden b = elim (b == 92) as (λ t. (b == 92) ≡ t → ((t && not hidden) && is_gap b) ≡ false) [
    | true ↦ λ e. let none : is_gap b ≡ false = grind (arith) in ap (λ t. not hidden && t) none ∙ and-false (not hidden)
    | false ↦ λ e. refl
  ] refl

  abbrev TitlesOnward : List ℕ → Type 0
  TitlesOnward bs = (going bare hidden white : Bool) → Agree hidden white → Within going bare hidden white bs

  -- a byte more, by whether a try begins there
  step : (b : ℕ) (bs : List ℕ) → TitlesOnward bs → (going bare hidden white : Bool) → Agree hidden white → Within going bare hidden white (b ∷ bs)
  step b bs onward going bare hidden white h = of (white && (b == first)) refl going
    where
      new : ℕ
      new = title_look first last false false bs

      rest : ℕ
      rest = titles first last (is_gap b) bs

      size : ℕ
      size = suc (length bs)

      marks : ℕ
      marks = cond (b == last) (gap bs) 0 + behind_marks last bs

      none : rest ≤ 2 * length bs + behind_marks last bs
      none = omega (arith, onward false false false (is_gap b) refl)

      fresh : new + rest ≤ 2 * length bs + behind_marks last bs
      fresh = onward true false false (is_gap b) refl

      goes : title_look first last (bare_behind bare b) (hides hidden b) bs + rest ≤ 2 * length bs + behind_marks last bs
      goes = onward true (bare_behind bare b) (hides hidden b) (is_gap b) (next-agrees hidden b)

      -- what a try passes here, by what the byte is
      old : Bool → Bool → ℕ
      old closes stops = cond closes (1 + gap bs) (cond stops 0 (1 + title_look first last (bare_behind bare b) (hides hidden b) bs))

      started : (closes stops : Bool) → is_plain last hidden b ≡ closes → (is_plain first hidden b || (bare && (b == 10))) ≡ stops → (white && (b == first)) ≡ true → old closes stops + (1 + new + rest) ≤ 2 * size + marks
      started true stops c s w = let is : (b == last) ≡ true = grind (arith) in subst (λ t. 1 + gap bs + (1 + new + rest) ≤ 2 * size + (cond t (gap bs) 0 + behind_marks last bs)) (sym is) (omega (arith, fresh))
      started false true c s w = omega (arith, fresh)
      started false false c s w = absurd (false≢true (grind (arith)))

      going_on : (closes stops : Bool) → is_plain last hidden b ≡ closes → old closes stops + (0 + rest) ≤ 2 * size + marks
      going_on true stops c = let is : (b == last) ≡ true = grind (arith) in subst (λ t. 1 + gap bs + (0 + rest) ≤ 2 * size + (cond t (gap bs) 0 + behind_marks last bs)) (sym is) (omega (arith, none))
      going_on false true c = omega (arith, none)
      going_on false false c = omega (arith, goes)

      of : (starts : Bool) → (white && (b == first)) ≡ starts → (going : Bool)
          → cond going (title_look first last bare hidden (b ∷ bs)) 0 + (cond starts (1 + new) 0 + rest) ≤ 2 * size + marks
      of true w true = started (is_plain last hidden b) (is_plain first hidden b || (bare && (b == 10))) refl refl w
      of false w true = going_on (is_plain last hidden b) (is_plain first hidden b || (bare && (b == 10))) refl
      of true w false = omega (arith, fresh)
      of false w false = omega (arith, none)

  pub titles-go : (bs : List ℕ) → TitlesOnward bs
  titles-go [] true bare hidden white h = omega arith
  titles-go [] false bare hidden white h = omega arith
  titles-go (b ∷ bs) going bare hidden white h = step b bs (titles-go bs) going bare hidden white h
