-- Places of events where links are made: the delimiter runs of a text go byte by byte.
use Rattle.std.specs.Prelude.{◌≡◌, ◌-◌, ◌<◌, ◌≤◌, ℕ, true, List, [], ◌∷◌}
use Rattle.std.specs.List.{AllByRecursion}
use Rattle.markdown_base.specs.declared.event.Event.{Event}
use Rattle.markdown_base.specs.declared.event.Point.{Point}
use Rattle.mdinline_emphasis.specs.Emphasis.{later}
use Rattle.mdinline_emphasis.specs.Runs.{is_sequence}
use Rattle.mdinline_links.specs.Linked.{outermost_spans}

module _ (At : Point → Type 0) where
  -- each place up to so many bytes later in the line is one of these
  abbrev pub AreSteps : Point → ℕ → Type 0
  AreSteps p n = (k : ℕ) → k ≤ n → At (later k p)

  -- A run goes from its enter byte by byte to its exit
  abbrev pub GoesByBytes : Event → Event → Type 0
  GoesByBytes e f = let n = f.point.index - e.point.index in (0 < n) × (later n e.point ≡ f.point) × AreSteps e.point n

  -- a span does, if it is a run
  abbrev pub IsBytewise : List Event → Type 0
  IsBytewise (e ∷ f ∷ []) = is_sequence e f ≡ true → GoesByBytes e f
  IsBytewise span = Unit {0}

  -- so do the runs of a text
  abbrev pub AreBytewise : List Event → Type 0
  AreBytewise es = AllByRecursion IsBytewise (outermost_spans es)

-- any place will do
abbrev pub Anywhere : Point → Type 0
Anywhere p = Unit {0}
