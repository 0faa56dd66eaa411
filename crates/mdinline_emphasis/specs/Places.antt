-- Places of runs: what a run closes, leaves and opens has room behind its place.
use Rattle.std.specs.Prelude.{ℕ, ◌+◌, ◌-◌, ◌<◌, ◌≤◌, ◌^◌, List, [], ◌∷◌, length, All}
use Rattle.markdown_base.specs.declared.event.Event.{Event}
use Rattle.markdown_base.specs.declared.event.Point.{Point}
use Rattle.mdinline_emphasis.specs.declared.pairs.Marker.{Marker}
use Rattle.mdinline_emphasis.specs.Emphasis.{Run, markers_of_all}

-- how many markers a run has, in pairs and left
abbrev pub markers : Run → ℕ
markers r = markers_of_all r.closed + (r.left + markers_of_all r.opened)

-- a place some bytes later in the line has a column and an index
abbrev pub HasRoom : ℕ → Point → Type 0
HasRoom n p = (p.column + n < 2 ^ 64) × (p.index + n < 2 ^ 64)

-- where a run stands: the index of its enter in the list, its place, its marker, and how many markers it has
pub record Standing : Type 0 where
  pub index : ℕ
  pub start : Point
  pub marker : Marker
  pub markers : ℕ

abbrev pub standing : Run → Standing
standing r = record { index = r.index; start = r.start; marker = r.marker; markers = markers r }

-- runs stand one behind another, from an index on, if their enters have these indices
abbrev pub AreApart : ℕ → List ℕ → Type 0
AreApart from [] = Unit {0}
AreApart from (index ∷ indices) = (from ≤ index) × AreApart (index + 2) indices

-- each run has room for its markers
abbrev pub AllHaveRoom : List Standing → Type 0
AllHaveRoom [] = Unit {0}
AllHaveRoom (s ∷ ss) = HasRoom s.markers s.start × AllHaveRoom ss

-- Places of events are in the document, and their columns have room for the bytes behind them
abbrev pub ArePlacesInside : List ℕ → List Event → Type 0
ArePlacesInside bytes events = All (λ e. (e.point.index ≤ length bytes) × HasRoom (length bytes - e.point.index) e.point) events
