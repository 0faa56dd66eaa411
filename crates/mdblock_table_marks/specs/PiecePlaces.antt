-- Pieces by places: each span is over so many columns of a line from a place on.
use Rattle.std.specs.Prelude.{ℕ, ◌+◌, ◌==◌, cond, List, [], ◌∷◌, ◌++◌}
use Rattle.markdown_base.specs.declared.event.Event.{Event}
use Rattle.markdown_base.specs.declared.event.Kind.TheVariants as kind
use Rattle.markdown_base.specs.declared.event.Point.{Point}
use Rattle.mdblock_lines.specs.Lines.{place_after}
use Rattle.mdblock_tables.specs.declared.pieces.Piece.{Piece}
use Rattle.mdblock_tables.specs.declared.pieces.Step.TheVariants.{Enter, Whole, Exit}
use Rattle.mdblock_containers.specs.PlaceEvents.{event_at, span_at}

-- how many columns a piece goes on
abbrev pub width : Piece → ℕ
width p = elim p.step [ Enter ↦ 0 | Whole ↦ p.size | Exit ↦ 0 ]

abbrev pub width_of : List Piece → ℕ
width_of [] = 0
width_of (p ∷ ps) = width p + width_of ps

module _ (t : ℕ) (bytes : List ℕ) where
  -- the events of a piece at a place. A span over no columns has none
  abbrev pub piece_at : Point → Piece → List Event
  piece_at place p = elim p.step [
    | Enter ↦ cond (p.size == 0) [] (event_at kind.Enter p.name place ∷ [])
    | Whole ↦ span_at t bytes p.name place p.size
    | Exit ↦ cond (p.size == 0) [] (event_at kind.Exit p.name place ∷ [])
  ]

  -- pieces one after another
  abbrev pub pieces_at : Point → List Piece → List Event
  pieces_at place [] = []
  pieces_at place (p ∷ ps) = piece_at place p ++ pieces_at (place_after t bytes place (width p)) ps
