-- Links between events that are in shape.
use Rattle.std.specs.Prelude.{◌≡◌, ℕ, List, Option, Some, option_and_then, All, length}
use Rattle.markdown_base.specs.declared.event.Event.{Event}
use Rattle.markdown_base.specs.declared.event.Link.{Link}
use Rattle.markdown_base.specs.Events.{EndsBelow}
use Rattle.markdown_edits.specs.Links.{next_of, previous_of}

-- the indices of the next and the previous event in an event's chain, if there are any
abbrev pub next_end : Event → Option ℕ
next_end e = option_and_then (λ (l : Link). l.next) e.link

abbrev pub previous_end : Event → Option ℕ
previous_end e = option_and_then (λ (l : Link). l.previous) e.link

-- Links are in shape: their ends are indices into the list, and an event links on to another exactly if that one links back
pub record AreInShape (events : List Event) : Type 0 where
  pub inside : All (EndsBelow (length events)) events
  pub on : (i j : ℕ) → next_of events i ≡ Some j → previous_of events j ≡ Some i
  pub back : (i j : ℕ) → previous_of events j ≡ Some i → next_of events i ≡ Some j
