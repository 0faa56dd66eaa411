-- Places of a document: their order, the points at which they are shown, and which two denote one byte.
--
-- A place is the seat of a virtual byte, the CR of a CR LF, or the document's end. Its point has its line, virtual column, index and number
-- in a tab (the points of unist, and `vs`).
use Rattle.std.specs.Prelude.{◌≡◌, ℕ, zero, suc, ◌-◌, ◌==◌, nat_lt, ◌&&◌, ◌||◌, not, Bool, false, cond, List, [], ◌∷◌, ◌++◌, Option, find, slice_index, Contains}
use Rattle.std.specs.List.{flat_map, list_all}
use Rattle.markdown_base.specs.declared.event.Point.{Point}
use Rattle.markdown_base.specs.Virtual.{Seat, virtual, document_end}

-- one place is before another: by index, then by number in the tab
abbrev pub stands_before : Point → Point → Bool
stands_before p q = nat_lt p.index q.index || ((p.index == q.index) && nat_lt p.vs q.vs)

-- a place is not before `from`, and is before `to`
abbrev pub lies_between : (from to place : Point) → Bool
lies_between from to place = not (stands_before place from) && stands_before place to

-- the place of a virtual byte is between two others
abbrev pub in_range : (from to : Point) → Seat → Bool
in_range from to s = lies_between from to s.point

-- the byte before this index is a CR
abbrev pub follows_cr : List ℕ → ℕ → Bool
follows_cr bytes zero = false
follows_cr bytes (suc i) = slice_index bytes i == 13

-- where a place is shown: at itself, except that the LF of a CR LF is shown at its CR
abbrev pub shown : List ℕ → Point → Point
shown bytes p = cond ((slice_index bytes p.index == 10) && follows_cr bytes p.index) (record { line = p.line; column = p.column; index = p.index - 1; vs = p.vs }) p

-- a place that is shown at itself: it is not between a CR and its LF
abbrev pub IsShown : List ℕ → Point → Type 0
IsShown bytes p = shown bytes p ≡ p

-- the points of all places: for each virtual byte where it is shown and where it is, and the document's end
abbrev pub points : (t : ℕ) → List ℕ → List Point
points t bytes = flat_map (λ s. shown bytes s.point ∷ s.point ∷ []) (virtual t bytes) ++ document_end t bytes ∷ []

-- a point is the point of a place of the document
abbrev pub IsPointOf : (t : ℕ) → List ℕ → Point → Type 0
IsPointOf t bytes p = Contains (points t bytes) p

-- the point of a place, given by index and number in a tab; None if there is no such place
abbrev pub point_at : (t : ℕ) → List ℕ → (ℕ × ℕ) → Option Point
point_at t bytes place = find (λ p. (p.index == place.0) && (p.vs == place.1)) (points t bytes)

-- the first place is not after the second, if CR and LF of a CR LF count as one: each virtual byte before the first is before the second
abbrev pub is_upto : (t : ℕ) → List ℕ → Point → Point → Bool
is_upto t bytes p q = list_all (λ s. not (stands_before s.point p) || stands_before s.point q) (virtual t bytes)

-- two places denote the same virtual byte, or the end: the same place, or a CR and its LF
abbrev pub denotes_same : (t : ℕ) → List ℕ → Point → Point → Bool
denotes_same t bytes p q = is_upto t bytes p q && is_upto t bytes q p
