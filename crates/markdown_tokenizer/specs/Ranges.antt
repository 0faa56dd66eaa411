-- Ranges of a document that a caller pushes one after another, each after its gap, if it has one.
use Rattle.std.specs.Prelude.{◌≡◌, ◌⊎◌, ℕ, List, [], ◌∷◌, Option, Some, None, true, cond}
use Rattle.markdown_base.specs.declared.event.Point.{Point}
use Rattle.markdown_base.specs.Places.{point_at, is_upto, denotes_same, stands_before}

-- a range, from a place to another one, and the place at which a gap before it ends, if there is one
abbrev pub AfterGap : Type 0
AfterGap = Option Point × (ℕ × ℕ) × (ℕ × ℕ)

-- A gap is empty, or goes from the beginning of a line to a later place of it
pub record IsGapFrom (t : ℕ) (bytes : List ℕ) (p w : Point) : Type 0 where
  pub at : point_at t bytes (w.index, w.vs) ≡ Some w
  pub leads : (denotes_same t bytes w p ≡ true) ⊎ ((p.column ≡ 1) × (w.line ≡ p.line) × (stands_before p w ≡ true))

-- where a text that ended at the first place ends after a gap up to the second one
abbrev pub after_gap : (t : ℕ) → List ℕ → Point → Point → Point
after_gap t bytes p w = cond (denotes_same t bytes w p) p w

-- the gap, if there is one, begins at a place
abbrev pub LeadsFrom : (t : ℕ) → List ℕ → Point → Option Point → Type 0
LeadsFrom t bytes p None = Unit {0}
LeadsFrom t bytes p (Some w) = IsGapFrom t bytes p w

-- where a text that ended at a place ends after the gap, if there is one
abbrev pub after_any : (t : ℕ) → List ℕ → Point → Option Point → Point
after_any t bytes p None = p
after_any t bytes p (Some w) = after_gap t bytes p w

-- A range begins where a text ends, and does not run backwards
pub record IsRangeFrom (t : ℕ) (bytes : List ℕ) (p : Point) (from to : ℕ × ℕ) : Type 0 where
  pub first : Point
  pub last : Point
  pub from_is : point_at t bytes from ≡ Some first
  pub to_is : point_at t bytes to ≡ Some last
  pub begins : denotes_same t bytes first p ≡ true
  pub upto : is_upto t bytes first last ≡ true

-- ranges that are pushed one after another, each after its gap, if it has one, onto a text that ends at this place
abbrev pub FollowOn : (t : ℕ) → List ℕ → Point → List AfterGap → Type 0
FollowOn t bytes p [] = Unit {0}
FollowOn t bytes p ((gap, from, to) ∷ ranges) =
    LeadsFrom t bytes p gap × (r : IsRangeFrom t bytes (after_any t bytes p gap) from to) × FollowOn t bytes r.last ranges
