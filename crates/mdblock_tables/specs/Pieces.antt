-- Pieces: what a text is cut into, by their sizes alone. Where they stand comes later: `placed` lays them over virtual bytes.
use Rattle.std.specs.Prelude.{ℕ, ◌+◌, ◌-◌, cond, List, [], ◌∷◌, ◌++◌, take, drop, None}
use Rattle.markdown_base.specs.declared.event.Kind.TheVariants as kind
use Rattle.markdown_base.specs.declared.event.Name.{Name}
use Rattle.markdown_base.specs.Events.{same_name}
use Rattle.markdown_base.specs.Virtual.{Seat, end_after}
use Rattle.mdconstructs_machines.specs.Spans.{event}
use Rattle.mdblock_leaf_blocks.specs.LeafEvents.{Mark, leaf_marks, span_marks}
use Rattle.mdblock_tables.specs.declared.pieces.Piece.{Piece}
use Rattle.mdblock_tables.specs.declared.pieces.Step.{Step}
use Rattle.mdblock_tables.specs.declared.pieces.Step.TheVariants.{Enter, Whole, Exit}

-- One behind the other: a span with nothing in it over so many bytes, and a span around pieces
pub data Pieces : Type 0 where
  nothing : Pieces
  leaf : (name : Name) → (size : ℕ) → Pieces → Pieces
  span : (name : Name) → (within : Pieces) → Pieces → Pieces

-- how many bytes pieces have
abbrev pub size_of : Pieces → ℕ
size_of nothing = 0
size_of (leaf n k more) = k + size_of more
size_of (span n within more) = size_of within + size_of more

-- pieces before others
abbrev pub joined : Pieces → Pieces → Pieces
joined nothing qs = qs
joined (leaf n k ps) qs = leaf n k (joined ps qs)
joined (span n within ps) qs = span n within (joined ps qs)

-- The marks of pieces over virtual bytes: each takes as many as it has bytes. A span over none has no marks
module _ (bytes : List ℕ) where
  abbrev pub placed : Pieces → List Seat → List Mark
  placed nothing seats = []
  placed (leaf n k more) seats = leaf_marks bytes n (take k seats) ++ placed more (drop k seats)
  placed (span n within more) seats =
      let k = size_of within in
      span_marks bytes n (take k seats) (placed within (take k seats)) ++ placed more (drop k seats)

-- the bytes of each span of this name around pieces, but for those in another of them
abbrev pub under : Name → Pieces → List ℕ → List (List ℕ)
under name nothing t = []
under name (leaf n k more) t = under name more (drop k t)
under name (span n within more) t =
    let k = size_of within in
    cond (same_name n name) (take k t ∷ []) (under name within (take k t)) ++ under name more (drop k t)

-- a piece, as the code has it
abbrev pub piece : Step → Name → (size : ℕ) → Piece
piece step name size = record { step = step; name = name; size = size }

-- Pieces as a writer goes over them: where each span begins and where it ends
abbrev pub told : Pieces → List Piece
told nothing = []
told (leaf n k more) = piece Whole n k ∷ told more
told (span n within more) = piece Enter n (size_of within) ∷ (told within ++ piece Exit n (size_of within) ∷ told more)

-- ---- over virtual bytes of which so many were passed
module _ (bytes : List ℕ) where
  -- where a span over virtual bytes is entered, and where it is exited
  abbrev pub enter_marks : Name → List Seat → List Mark
  enter_marks n [] = []
  enter_marks n (s ∷ ss) = (event bytes kind.Enter n s.point, None) ∷ []

  abbrev pub exit_marks : Name → List Seat → List Mark
  exit_marks n [] = []
  exit_marks n (s ∷ ss) = (event bytes kind.Exit n (end_after s.end ss), None) ∷ []

  -- Pieces one after another, as a writer puts them: a span that ends has the virtual bytes before it
  abbrev pub laid : List Piece → (passed : ℕ) → List Seat → List Mark
  laid [] passed seats = []
  laid (p ∷ ps) passed seats = elim p.step [
    | Enter ↦ enter_marks p.name (take p.size (drop passed seats)) ++ laid ps passed seats
    | Whole ↦ leaf_marks bytes p.name (take p.size (drop passed seats)) ++ laid ps (passed + p.size) seats
    | Exit ↦ exit_marks p.name (take p.size (drop (passed - p.size) seats)) ++ laid ps passed seats
  ]
