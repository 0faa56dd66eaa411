-- How far marks are written as events, each chunk linked to the one before it.
use Rattle.std.specs.Prelude.{◌≡◌, ℕ, zero, suc, Bool, true, false, List, [], ◌∷◌, ◌++◌, Option, Some, None}
use Rattle.markdown_base.specs.declared.event.Event.{Event}
use Rattle.mdblock_leaf_blocks.specs.LeafEvents.{Mark}
use Rattle.mdblock_containers.specs.Skeleton.{chained_from}

-- no mark begins a chunk
abbrev pub NoChunk : List Mark → Type 0
NoChunk [] = Unit {0}
NoChunk ((x, None) ∷ ms) = NoChunk ms
NoChunk ((x, Some d) ∷ ms) = ⊥

-- the last chunk of marks is at this index, and waits for the next
abbrev pub IsWaiting : List Mark → ℕ → Type 0
IsWaiting [] j = ⊥
IsWaiting ((x, None) ∷ ms) zero = ⊥
IsWaiting ((x, None) ∷ ms) (suc j) = IsWaiting ms j
IsWaiting ((x, Some d) ∷ ms) zero = (d.has_next ≡ true) × NoChunk ms
IsWaiting ((x, Some d) ∷ ms) (suc j) = IsWaiting ms j

-- the last chunk of marks waits for the next, or, if there is no chunk, so it was before
abbrev pub waits : (before : Bool) → List Mark → Bool
waits b [] = b
waits b ((x, None) ∷ ms) = waits b ms
waits b ((x, Some d) ∷ ms) = waits d.has_next ms

-- the last chunk of a stretch is at this index, if it has one so far; a further one comes, or not
abbrev pub IsLast : List Mark → Option ℕ → (comes : Bool) → Type 0
IsLast ms None comes = waits false ms ≡ false
IsLast ms (Some j) comes = (comes ≡ true → IsWaiting ms j) × (comes ≡ false → waits false ms ≡ false)

-- Of all marks these events are written, and the rest is not
pub record Written (events : List Event) (last : Option ℕ) (comes : Bool) (rest all : List Mark) : Type 0 where
  pub marks : List Mark
  pub are : events ≡ chained_from 0 None marks
  pub is_last : IsLast marks last comes
  pub same : marks ++ rest ≡ all
