-- Gaps: beginnings of lines that are passed and never read. An inner file: no public clause cites it.
use Rattle.std.specs.List.{AllByRecursion}
use Rattle.std.specs.Prelude.{◌≡◌, ◌≢◌, ℕ, ◌≤◌, ◌<◌, ◌==◌, not, Bool, true, false, cond, List, [], ◌∷◌, Option, Some, None, find, filter, unwrap_or, ◌⊎◌}
use Rattle.markdown_base.specs.declared.event.Point.{Point}
use Rattle.markdown_base.specs.Virtual.{Seat, virtual}
use Rattle.markdown_base.specs.Places.{stands_before, is_upto}
use Rattle.markdown_tokenizer.specs.Text.{in_range}
use Rattle.markdown_tokenizer.specs.declared.cursor.Moves.{Moves}
use Rattle.markdown_tokenizer.specs.declared.cursor.Moves.TheVariants.{Other}
use Rattle.markdown_tokenizer.specs.Cursor.{IsPlace, moved}

-- the place up to which the beginning of a line is passed, if it is
abbrev pub skip_of : List Point → ℕ → Option Point
skip_of skips line = find (λ p. p.line == line) skips

-- the places are in different lines, sorted by line
abbrev pub AreSorted : List Point → Type 0
AreSorted [] = Unit {0}
AreSorted (p ∷ ps) = AllByRecursion (λ (q : Point). p.line < q.line) ps × AreSorted ps

abbrev pub is_kept_by : Option Point → Seat → Bool
is_kept_by None s = true
is_kept_by (Some p) s = not (stands_before s.point p)

-- a virtual byte is in no gap
abbrev pub is_kept : List Point → Seat → Bool
is_kept skips s = is_kept_by (skip_of skips s.point.line) s

-- where the next byte is looked for: at the place, or, at the beginning of a line, after its gap
abbrev pub resumed : List Point → Point → Point
resumed skips p = cond (p.column == 1) (unwrap_or (skip_of skips p.line) p) p

-- the virtual bytes from one place on before another, without those in gaps
abbrev pub kept_between : (t : ℕ) → List ℕ → List Point → Point → Point → List Seat
kept_between t bytes skips from to = filter (is_kept skips) (filter (in_range from to) (virtual t bytes))

-- A gap ends in a line, not after where the text ends
pub record IsSkip (t : ℕ) (bytes : List ℕ) (end : Point) (p : Point) : Type 0 where
  pub place : IsPlace t bytes p
  pub inside : 1 < p.column
  pub upto : is_upto t bytes p end ≡ true

-- a place is in no gap
abbrev pub IsOutside : List Point → Point → Type 0
IsOutside skips after_previous =
    (p : Point) → skip_of skips after_previous.line ≡ Some p → (after_previous.column ≡ 1) ⊎ (stands_before after_previous p ≡ false)

-- an index is not after an end; a place with a smaller index is in no tab, and no gap begins there
pub record IsPlainUntil (skips : List Point) (place : Point) (end plain_until : ℕ) : Type 0 where
  pub before : plain_until ≤ end
  pub flat : place.index < plain_until → place.vs ≡ 0
  pub there : place.index < plain_until → resumed skips place ≡ place

-- a place has moved over the next virtual byte, as it was known to; what is then known of the next one
pub record HasMoved (skips : List Point) (moves : Moves) (old new : Point) (end plain_until : ℕ) : Type 0 where
  pub told : moves ≢ Other
  pub place : new ≡ moved moves old
  pub is_plain_until : IsPlainUntil skips new end plain_until
