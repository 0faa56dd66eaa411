-- What is promised of emphasis.
use Rattle.std.specs.Prelude.{◌≡◌, ◌+◌, ◌*◌, ◌≤◌, ℕ, Bool, List, [], ◌∷◌, length}
use Rattle.markdown_base.proofs.Orders.{InOrder}
use Rattle.markdown_base.specs.declared.event.Event.{Event}
use Rattle.markdown_base.specs.declared.event.Point.{Point}
use Rattle.markdown_base.specs.Events.{IsBalanced}
use Rattle.mdinline_emphasis.specs.Costs.{ends_of_pairs, markers_left}
use Rattle.mdinline_emphasis.specs.Emphasis.{Run, emphasised, paired}
use Rattle.mdinline_emphasis.specs.Places.{ArePlacesInside}
use Rattle.mdinline_emphasis.specs.Runs.{runs_in}

module _ (texts : ℕ → List Event) where
  -- runs that are in no pair yet, with balanced events between them
  abbrev pub AreFresh : List Run → Type 0
  AreFresh [] = Unit {0}
  AreFresh (r ∷ rs) = (r.closed ≡ []) × (r.opened ≡ []) × IsBalanced (texts r.index) × AreFresh rs

abbrev pub LeavesBalanced : Type 0
LeavesBalanced = (texts : ℕ → List Event) (rs : List Run) (rest : List Event) → AreFresh texts rs → IsBalanced rest → IsBalanced (emphasised texts rs rest)

-- each end of a pair has markers, which are left no more
abbrev pub EndsTakeMarkers : Type 0
EndsTakeMarkers = (rs : List Run) → ends_of_pairs (paired rs) + markers_left (paired rs) ≤ ends_of_pairs rs + markers_left rs

-- A text has a run for two of its events at most, in no pair yet; and if its events stand in order inside the document, a marker for a byte
abbrev pub RunsAreFew : Type 0
RunsAreFew = (one_tilde : Bool) (bytes : List ℕ) (events : List Event) → let rs = runs_in one_tilde bytes events in
    (2 * length rs ≤ length events) × (ends_of_pairs rs ≡ 0)
    × ((p q : Point) → ArePlacesInside bytes events → InOrder p events q → markers_left rs ≤ length bytes)
