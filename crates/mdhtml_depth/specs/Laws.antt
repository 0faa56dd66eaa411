-- Laws of the limit of depth.
use Rattle.std.specs.Prelude.{◌≡◌, ℕ, true, not, List, filter}
use Rattle.markdown_base.specs.declared.event.Event.{Event}
use Rattle.markdown_base.specs.Events.{IsBalanced}
use Rattle.mdhtml_depth.specs.Depth.{has_depth, nests, within}

-- Balanced events stay balanced
abbrev pub BalanceIsKept : Type 0
BalanceIsKept = (limit opened : ℕ) (events : List Event) → IsBalanced events → IsBalanced (within limit opened events)

-- and no span that is left is too deep
abbrev pub DepthIsKept : Type 0
DepthIsKept = (limit : ℕ) (events : List Event) → IsBalanced events → has_depth limit 0 (within limit 0 events) ≡ true

-- If no span is too deep, nothing changes
abbrev pub ShallowStays : Type 0
ShallowStays = (limit opened : ℕ) (events : List Event) → has_depth limit opened events ≡ true → within limit opened events ≡ events

-- All events of other spans stay, in their order
abbrev pub OthersStay : Type 0
OthersStay = (limit opened : ℕ) (events : List Event) → filter (λ e. not (nests e.name)) (within limit opened events) ≡ filter (λ e. not (nests e.name)) events
