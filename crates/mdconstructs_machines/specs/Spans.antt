-- Spans over virtual bytes: what enters and exits them, and what is in them.
--
-- Places come only from the virtual bytes: a span begins at its first byte, and ends where its last byte ends, which after a line ending is
-- the start of the next line. So a gap that was passed there changes nothing: what follows it begins at its own byte.
use Rattle.std.specs.Prelude.{ℕ, List, [], ◌∷◌, ◌++◌, None}
use Rattle.markdown_base.specs.declared.event.Event.{Event}
use Rattle.markdown_base.specs.declared.event.Kind.{Kind}
use Rattle.markdown_base.specs.declared.event.Kind.TheVariants.{Enter, Exit}
use Rattle.markdown_base.specs.declared.event.Name.{Name}
use Rattle.markdown_base.specs.declared.event.Point.{Point}
use Rattle.markdown_base.specs.Virtual.{Seat, end_after}
use Rattle.markdown_base.specs.Places.{shown}

module _ (bytes : List ℕ) where
  -- an event at a place, as it is shown, with no link
  abbrev pub event : Kind → Name → Point → Event
  event kind name place = record { kind = kind; name = name; point = shown bytes place; link = None }

  -- a span over virtual bytes, with these events in it
  abbrev pub span : Name → List Seat → List Event → List Event
  span name [] inside = inside
  span name (s ∷ ss) inside = event Enter name s.point ∷ (inside ++ event Exit name (end_after s.end ss) ∷ [])

  -- a span with nothing in it
  abbrev pub leaf : Name → List Seat → List Event
  leaf name seats = span name seats []
