-- Events that stand at places of a document.
use Rattle.std.specs.Prelude.{ℕ, List, All}
use Rattle.markdown_base.specs.declared.event.Event.{Event}
use Rattle.markdown_base.specs.Places.{IsPointOf}

-- each event stands at a place of the document: its point, with line and column, is the point of that place
abbrev pub AreAtPlaces : (t : ℕ) → List ℕ → List Event → Type 0
AreAtPlaces t bytes events = All (λ e. IsPointOf t bytes e.point) events
