-- Links between the events of a list: when two may be linked, and what linking sets.
use Rattle.std.specs.Prelude.{◌≡◌, ℕ, zero, suc, ◌+◌, ◌<◌, ◌↔◌, true, List, [], ◌∷◌, Option, Some, IsSome, IsSomeAnd, option_map, option_and_then, slice_get}
use Rattle.markdown_base.specs.declared.event.Event.{Event}
use Rattle.markdown_base.specs.declared.event.Link.{Link}
use Rattle.markdown_base.specs.declared.event.Content.{Content}
use Rattle.markdown_base.specs.declared.event.Kind.TheVariants.{Enter, Exit}
use Rattle.markdown_base.specs.Events.{is_void}

-- the event begins a void span and has a link
pub record IsLinkedEnter (e : Event) : Type 0 where
  pub enter : e.kind ≡ Enter
  pub void : is_void e.name ≡ true
  pub linked : IsSome e.link

-- the span that `enter` begins ends with `exit`
pub record IsEndedBy (enter exit : Event) : Type 0 where
  pub exits : exit.kind ≡ Exit
  pub same : exit.name ≡ enter.name

-- what the text of the event's chain is read as
abbrev pub content_of : Event → Option Content
content_of e = option_map (λ (l : Link). l.content) e.link

-- what the event's chain at an index is read as, if the event is in one
abbrev pub content_at : List Event → ℕ → Option Content
content_at events i = option_and_then content_of (slice_get events i)

-- A linked enter of a void span is at an index, directly followed by its exit
pub record IsChunk (events : List Event) (k : ℕ) : Type 0 where
  pub enter : Event
  pub exit : Event
  pub enter_at : slice_get events k ≡ Some enter
  pub exit_at : slice_get events (k + 1) ≡ Some exit
  pub linked : IsLinkedEnter enter
  pub ended : IsEndedBy enter exit

-- The event at `next` can follow the one at `previous` in a chain: both are linked enters of void spans with the same content, and the span
-- at `previous` ends before `next` (what the crate asserts in `link_to`, and that chains go forward)
pub record CanLink (events : List Event) (previous next : ℕ) : Type 0 where
  pub order : previous < next
  pub first : IsChunk events previous
  pub second : IsSomeAnd (slice_get events next) IsLinkedEnter
  pub one_content : content_at events previous ≡ content_at events next

-- the link with its next end set
abbrev pub next_set : ℕ → Link → Link
next_set n l = record l { next = Some n }

-- the link with its previous end set
abbrev pub previous_set : ℕ → Link → Link
previous_set n l = record l { previous = Some n }

-- the event with its link's next end set
abbrev pub with_next : ℕ → Event → Event
with_next n e = record e { link = option_map (next_set n) e.link }

-- the event with its link's previous end set
abbrev pub with_previous : ℕ → Event → Event
with_previous n e = record e { link = option_map (previous_set n) e.link }

-- the list with its event at an index changed by f
abbrev pub updated_at : ℕ → (Event → Event) → List Event → List Event
updated_at i f [] = []
updated_at zero f (e ∷ es) = f e ∷ es
updated_at (suc i) f (e ∷ es) = e ∷ updated_at i f es

-- the list with its events at `previous` and `next` made neighbours in a chain
abbrev pub linked_to : ℕ → ℕ → List Event → List Event
linked_to previous next events = updated_at next (with_previous previous) (updated_at previous (with_next next) events)

-- the next event in the chain of the event at an index, if there is one
abbrev pub next_of : List Event → ℕ → Option ℕ
next_of events i = option_and_then (λ (e : Event). option_and_then (λ (l : Link). l.next) e.link) (slice_get events i)

-- the previous event in the chain of the event at an index, if there is one
abbrev pub previous_of : List Event → ℕ → Option ℕ
previous_of events i = option_and_then (λ (e : Event). option_and_then (λ (l : Link). l.previous) e.link) (slice_get events i)

-- two events are neighbours in a chain: the first one links on to the second, and the second one back to the first
abbrev pub AreNeighbours : List Event → ℕ → ℕ → Type 0
AreNeighbours events i j = (next_of events i ≡ Some j) × (previous_of events j ≡ Some i)

-- links are mutual: an event links on to another exactly if that one links back to it
abbrev pub AreMutual : List Event → Type 0
AreMutual events = (i j : ℕ) → (next_of events i ≡ Some j) ↔ (previous_of events j ≡ Some i)
