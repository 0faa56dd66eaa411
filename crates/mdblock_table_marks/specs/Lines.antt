-- Lines of a table, as the code keeps them.
use Rattle.std.specs.Prelude.{◌≡◌, ◌≤◌, ◌<◌, ℕ, suc, List, [], ◌∷◌, drop, length}
use Rattle.std.specs.List.{AllByRecursion}
use Rattle.markdown_base.specs.declared.event.Point.{Point}
use Rattle.markdown_base.specs.Virtual.{Seat, point}
use Rattle.mdconstructs_machines.specs.LineEvents.{ending_of}
use Rattle.mdblock_lines.specs.Containers.{Container}
use Rattle.mdblock_lines.specs.Lines.{line_at, place_after}
use Rattle.mdblock_containers.specs.declared.prefixes.At.{At}
use Rattle.mdblock_containers.specs.declared.spans.RowAt.{RowAt}
use Rattle.mdblock_containers.specs.Costs.{HaveSizes}
use Rattle.mdblock_containers.specs.Rows.{Row}
use Rattle.mdblock_containers.specs.Spans.{IsPlaced, IsRowIn}
use Rattle.mdblock_containers.specs.Stretches.{AreFurther, Begins, Ends, IsOutside}

-- virtual bytes go from one place to another, as places are shown
pub record FromTo (bytes : List ℕ) (p q : Point) (seats : List Seat) : Type 0 where
  pub first : Begins bytes p seats
  pub last : Ends bytes q seats
  pub none : seats ≡ [] → p ≡ q

-- the place of a line
abbrev pub begin_at : RowAt → Point
begin_at x = point x.span.number 1 x.span.start 0

module _ (t : ℕ) (bytes : List ℕ) where
  -- where a line is
  pub record IsStanding (x : RowAt) : Type 0 where
    pub placed : IsPlaced t bytes x.span.number x.span.start x
    pub outside : IsOutside bytes x.span.start

  -- a line with its containers
  pub record IsLine (x : RowAt) (r : Row) : Type 0 where
    pub stands : IsStanding x
    pub line : r.line ≡ line_at t x.span.number x.span.start (drop x.span.start bytes)
    pub columns : x.row.columns ≡ r.columns

  -- Lines of a part, behind whose first these containers are open: none begins in the further ones
  abbrev pub AreLines : (stack : List Container) → List RowAt → List Row → Type 0
  AreLines stack [] rs = ⊥
  AreLines stack (x ∷ xs) [] = ⊥
  AreLines stack (x ∷ xs) (r ∷ rs) = IsLine x r × AreFurther t bytes stack (suc x.span.number) x.span.next xs rs

  pub record HaveLines (stack : List Container) (xs : List RowAt) : Type 0 where
    pub all : List Row
    pub are : AreLines stack xs all

  -- where the text of a line ends
  abbrev pub end_at : RowAt → Point
  end_at x = place_after t bytes (begin_at x) x.span.size

  -- a place is directly behind the prefixes of the first line
  abbrev pub IsBegin : List RowAt → At → Type 0
  IsBegin [] at = ⊥
  IsBegin (x ∷ xs) at = (at.columns ≡ x.row.columns) × (at.place ≡ place_after t bytes (begin_at x) at.columns)

  -- where the text of the last of these lines ends; this place, if there is none
  abbrev pub last_end : Point → List RowAt → Point
  last_end p [] = p
  last_end p (x ∷ xs) = last_end (end_at x) xs

  module _ (stack : List Container) where
    -- a line in which no container begins, behind one of these containers
    pub record IsFurther (y : RowAt) : Type 0 where
      pub stands : IsStanding y
      pub many : y.row.many ≤ length stack
      pub sizes : HaveSizes stack

    -- such a line comes directly behind one whose text ends at a place
    pub record IsNext (end : Point) (r : Row) (y : RowAt) (s : Row) : Type 0 where
      pub row : IsRowIn t bytes stack y.span.number y.span.start y s
      pub outside : IsOutside bytes y.span.start
      pub begun : s.begun ≡ []
      pub ending : FromTo bytes end (begin_at y) (ending_of r.line)
      pub some : 1 ≤ length (ending_of r.line)

    -- lines one behind the other
    abbrev pub AreNext : (end : Point) → Row → List RowAt → List Row → Type 0
    AreNext end r [] [] = Unit {0}
    AreNext end r [] (s ∷ ss) = ⊥
    AreNext end r (y ∷ ys) [] = ⊥
    AreNext end r (y ∷ ys) (s ∷ ss) = IsNext end r y s × AreNext (end_at y) s ys ss

-- a line has a column behind its prefixes
abbrev pub HasText : RowAt → Type 0
HasText x = x.row.columns < x.span.size

-- Lines can be a table: a header row, a delimiter row, and rows with text
abbrev pub CanBeTable : List RowAt → Type 0
CanBeTable [] = ⊥
CanBeTable (x ∷ []) = ⊥
CanBeTable (x ∷ y ∷ zs) = AllByRecursion HasText zs
