-- How far a stretch of lines is written, chunk by chunk.
use Rattle.std.specs.Prelude.{◌≡◌, ◌<◌, ℕ, suc, ◌+◌, ◌==◌, ◌&&◌, not, Bool, false, cond, List, [], ◌∷◌, ◌++◌, length, Option, is_some, slice_index}
use Rattle.std.specs.List.{flat_map}
use Rattle.markdown_base.specs.declared.event.Event.{Event}
use Rattle.markdown_base.specs.declared.event.Point.{Point}
use Rattle.markdown_base.specs.Places.{follows_cr, shown}
use Rattle.markdown_base.specs.Virtual.{Seat, end_after, point}
use Rattle.mdblock_leaf_blocks.specs.LeafEvents.{Mark}
use Rattle.mdblock_lines.specs.Containers.{Container}
use Rattle.mdblock_containers.specs.declared.spans.RowAt.{RowAt}
use Rattle.mdblock_containers.specs.Rows.{Row, has_none}
use Rattle.mdblock_containers.specs.Skeleton.{Piece, chunks_of, joined_pieces, pieces_of}
use Rattle.mdblock_containers.specs.Spans.{IsRowIn}
use Rattle.mdblock_containers.specs.Written.{Written}

-- where a line ends: behind its line ending, if that is held
abbrev pub end_at : (is_held : Bool) → RowAt → Point
end_at is_held x =
    let text = point x.span.number (x.span.size + 1) x.span.end 0 in
    cond is_held (cond (x.span.end == x.span.next) text (point (x.span.number + 1) 1 x.span.next 0)) text

-- where the last of these lines ends; this place, if there is none
abbrev pub ends_at : (is_held : Bool) → Point → List RowAt → Point
ends_at is_held p [] = p
ends_at is_held p (x ∷ xs) = ends_at is_held (end_at is_held x) xs

-- the last of these lines; this one, if there is none
abbrev pub last_at : RowAt → List RowAt → RowAt
last_at x [] = x
last_at x (y ∷ ys) = last_at y ys

module _ (bytes : List ℕ) where
  -- an index at which no LF of a CR LF is
  abbrev pub IsOutside : ℕ → Type 0
  IsOutside i = ((slice_index bytes i == 10) && follows_cr bytes i) ≡ false

  -- the pieces of a stretch from a piece on that is not written: with these seats if the stretch ends, and those if it goes on
  abbrev pub pieces_from : (is_held : Bool) → (last kept : List Seat) → List Row → List (Piece bytes)
  pieces_from is_held last kept [] = record { before = []; seats = last } ∷ []
  pieces_from is_held last kept (r ∷ rs) = record { before = []; seats = kept } ∷ pieces_of bytes is_held r rs

  -- seats from one place to another, as places are shown
  abbrev pub Begins : Point → List Seat → Type 0
  Begins p [] = Unit {0}
  Begins p (s ∷ ss) = p ≡ shown bytes s.point

  abbrev pub Ends : Point → List Seat → Type 0
  Ends q [] = Unit {0}
  Ends q (s ∷ ss) = q ≡ shown bytes (end_after s.end ss)

  pub record Run (p q : Point) (ss : List Seat) : Type 0 where
    pub first : Begins p ss
    pub last : Ends q ss
    pub none : ss ≡ [] → p ≡ q
    pub some : 0 < length ss → p.index < q.index

module _ (t : ℕ) (bytes : List ℕ) (stack : List Container) where
  -- further lines of a stretch, in which no container begins
  abbrev pub AreFurther : (number start : ℕ) → List RowAt → List Row → Type 0
  AreFurther number start [] [] = Unit {0}
  AreFurther number start [] (r ∷ rs) = ⊥
  AreFurther number start (x ∷ xs) [] = ⊥
  AreFurther number start (x ∷ xs) (r ∷ rs) = IsRowIn t bytes stack number start x r × (r.begun ≡ []) × AreFurther (suc number) x.span.next xs rs

  pub record HasFurther (xs : List RowAt) : Type 0 where
    pub number : ℕ
    pub start : ℕ
    pub rows : List Row
    pub are : AreFurther number start xs rows
    pub outside : IsOutside bytes start

  -- the piece that is not written goes from a place to the end of the stretch, or to the beginning of the next line
  abbrev pub IsPending : (place end : Point) (last kept : List Seat) (number start : ℕ) → List RowAt → Type 0
  IsPending place end last kept number start [] = Run bytes place end last
  IsPending place end last kept number start (x ∷ xs) = Run bytes place (point number 1 start 0) kept × (0 < length kept)

  -- A stretch is written up to a piece that begins at a place; these lines are left
  pub record InStretch (is_held : Bool) (events : List Event) (previous : Option ℕ) (place to : Point) (xs : List RowAt) (rest all : List Mark) : Type 0 where
    pub number : ℕ
    pub start : ℕ
    pub rows : List Row
    pub last : List Seat
    pub kept : List Seat
    pub end : Point
    pub to_is : to ≡ ends_at is_held end xs
    pub are : AreFurther number start xs rows
    pub outside : IsOutside bytes start
    pub pending : IsPending place end last kept number start xs
    pub written : Written events previous (not (has_none (flat_map (λ (p : Piece bytes). p.seats) (joined_pieces bytes (pieces_from bytes is_held last kept rows)))))
        (chunks_of bytes (is_some previous) (joined_pieces bytes (pieces_from bytes is_held last kept rows)) ++ rest) all
