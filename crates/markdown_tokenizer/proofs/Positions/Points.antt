-- Places that denote the same are shown alike, and a place has one point.
use Rattle.markdown_tokenizer.proofs.Prelude.{◌≡◌, ℕ, zero, suc, ◌-◌, ◌<◌, ◌==◌, List, [], ◌∷◌, Bool, true, false, cond, Some, refl, sym, ap, ◌∙◌, subst, arith, ◌&&◌, find, slice_index, Contains, Contains-append_right, nat_tests, eqb-true, and_parts, Point, point, end_after, shown, follows_cr, denotes_same, IsPointOf, points, point_at, IsPlace}
use Rattle.markdown_tokenizer.proofs.Positions.Order.{before-self}
use Rattle.markdown_tokenizer.proofs.Positions.Standing.{place-of-point}
pub use Rattle.markdown_tokenizer.proofs.Positions.Standing.{same-numbers}
use Rattle.markdown_tokenizer.proofs.Positions.Cursors.{same-behind, upto-order, upto-same}

-- a place is shown in its line
pub shown-line : (bytes : List ℕ) (p : Point) → (shown bytes p).line ≡ p.line
shown-line bytes p = elim ((slice_index bytes p.index == 10) && follows_cr bytes p.index) as (λ b. (cond b (point p.line p.column (p.index - 1) p.vs) p).line ≡ p.line) [ true ↦ refl | false ↦ refl ]

-- and in its column
pub shown-column : (bytes : List ℕ) (p : Point) → (shown bytes p).column ≡ p.column
shown-column bytes p = elim ((slice_index bytes p.index == 10) && follows_cr bytes p.index) as (λ b. (cond b (point p.line p.column (p.index - 1) p.vs) p).column ≡ p.column) [ true ↦ refl | false ↦ refl ]

module _ (t : ℕ) (bytes : List ℕ) where
  -- two places that denote the same are shown alike
  pub same-shown : (p q : Point) → IsPlace t bytes p → IsPlace t bytes q → denotes_same t bytes p q ≡ true → shown bytes p ≡ shown bytes q
  same-shown p q a b h = a.stands ∙ ap (end_after (point 1 1 0 0)) (same-behind t bytes p q a b h) ∙ sym b.stands

  -- two places with one index and one number in a tab are one point
  pub one-point : (p q : Point) → IsPlace t bytes p → IsPlace t bytes q → p.index ≡ q.index → p.vs ≡ q.vs → p ≡ q
  one-point p q a b e f =
      let to = upto-order t bytes p q (rw (e, f) (before-self q.index q.vs)) in
      let back = upto-order t bytes q p (rw (e, f) (before-self q.index q.vs)) in
      let s = same-shown p q a b (upto-same t bytes p q to back) in
      same-numbers p.line p.column p.index p.vs q.line q.column q.index q.vs
      (sym (shown-line bytes p) ∙ ap (λ (x : Point). x.line) s ∙ shown-line bytes q)
      (sym (shown-column bytes p) ∙ ap (λ (x : Point). x.column) s ∙ shown-column bytes q) e f

-- a search finds something if an element passes
find-first : (f : Point → Bool) (xs : List Point) (p : Point) → Contains xs p → f p ≡ true → (q : Point) × (find f xs ≡ Some q)
find-first f [] p (k, lt, is) e = absurd (omega arith)
find-first f (x ∷ xs) p (zero, lt, is) e = let h = ap f is ∙ e in rw h (x, refl)
find-first f (x ∷ xs) p (suc k, lt, is) e = elim (f x) as (λ b. (q : Point) × (cond b (Some x) (find f xs) ≡ Some q)) [ true ↦ (x, refl) | false ↦ find-first f xs p (k, omega arith, is) e ]

-- what a search finds passes, and is an element
pub found-passes : (f : Point → Bool) (xs : List Point) (q : Point) → find f xs ≡ Some q → (f q ≡ true) × Contains xs q
found-passes f [] q e = absurd (cc)
found-passes f (x ∷ xs) q e = elim (f x) as (λ b. (f x ≡ b) → cond b (Some x) (find f xs) ≡ Some q → (f q ≡ true) × Contains (x ∷ xs) q) [
  | true ↦ λ h k. (let is : x ≡ q = cc in (ap f (sym is) ∙ h, subst (Contains (x ∷ xs)) is (0, omega arith, refl)))
  | false ↦ λ h k. (let r = found-passes f xs q k in (r.0, Contains-append_right (x ∷ []) xs q r.1))
] refl e

-- what a place gives is a point of the document, with its index and number
pub record IsAtPlace (t : ℕ) (bytes : List ℕ) (place : ℕ × ℕ) (p : Point) : Type 0 where
  pub is_point : IsPointOf t bytes p
  pub index : p.index ≡ place.0
  pub vs : p.vs ≡ place.1

pub point_at-is : (t : ℕ) (bytes : List ℕ) (place : ℕ × ℕ) (p : Point) → point_at t bytes place ≡ Some p → IsAtPlace t bytes place p
point_at-is t bytes place p e =
    let r = found-passes (λ q. (q.index == place.0) && (q.vs == place.1)) (points t bytes) p e in
    let both = and_parts (p.index == place.0) (p.vs == place.1) r.0 in
    record { is_point = r.1; index = eqb-true p.index place.0 both.0; vs = eqb-true p.vs place.1 both.1 }

-- the point of a place is what its index and number in a tab give
pub point_at-point : (t : ℕ) (bytes : List ℕ) → 0 < t → (p : Point) → IsPointOf t bytes p → point_at t bytes (p.index, p.vs) ≡ Some p
point_at-point t bytes d p h =
    let (q, found) = find-first (λ q. (q.index == p.index) && (q.vs == p.vs)) (points t bytes) p h (grind (arith, nat_tests)) in
    let at = point_at-is t bytes (p.index, p.vs) q found in
    found ∙ ap Some (one-point t bytes q p (place-of-point t bytes d q at.is_point) (place-of-point t bytes d p h) at.index at.vs)
