-- The events of a list that stay through changes of it.
use Rattle.std.specs.Prelude.{◌≡◌, ℕ, ◌<◌, not, ◌↔◌, is_some, List, length, Option, Some, None, option_map, slice_get, All}
use Rattle.markdown_base.specs.declared.event.Event.{Event}
use Rattle.markdown_base.specs.Events.{relinked}
use Rattle.markdown_edits.specs.Woven.{of_list, Change, is_removed, place_in, woven, changed}
use Rattle.markdown_edits.specs.Links.{AreNeighbours}

-- none of the events that come is one of the list
abbrev pub AreNew : List Change → Type 0
AreNew ws = (n : ℕ) → All (λ w. place_in (of_list n) w.events ≡ None) ws

-- the new place of the event at n, None if it is removed
abbrev pub place_after : List Change → List Event → ℕ → Option ℕ
place_after ws xs n = place_in (of_list n) (woven ws 0 xs)

-- an event stays unless a change removes it
abbrev pub StaysUnlessRemoved : List Change → List Event → Type 0
StaysUnlessRemoved ws xs = (n : ℕ) → n < length xs → is_some (place_after ws xs n) ≡ not (is_removed ws n)

-- an event that stays is the same but for its link ends, which lead to the new places of their events
abbrev pub StaysAsItWas : List Change → List Event → Type 0
StaysAsItWas ws xs = (n p : ℕ) → place_after ws xs n ≡ Some p
    → slice_get (changed ws xs) p ≡ option_map (relinked (place_after ws xs)) (slice_get xs n)

-- events that stay keep their order
abbrev pub KeepsOrder : List Change → List Event → Type 0
KeepsOrder ws xs = (n m p q : ℕ) → place_after ws xs n ≡ Some p → place_after ws xs m ≡ Some q → n < m → p < q

-- two events that stay are linked afterwards exactly if they were linked before, by both ends
abbrev pub KeepsLinks : List Change → List Event → Type 0
KeepsLinks ws xs = (n m p q : ℕ) → place_after ws xs n ≡ Some p → place_after ws xs m ≡ Some q
    → AreNeighbours xs n m ↔ AreNeighbours (changed ws xs) p q
