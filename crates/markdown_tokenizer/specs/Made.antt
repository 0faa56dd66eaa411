-- What holds for the events that a tokenizer makes. An inner file: no public clause cites it.
use Rattle.std.specs.Prelude.{◌≡◌, ℕ, Bool, true, false, List, [], ◌∷◌, map, reverse, Some, All}
use Rattle.markdown_base.specs.declared.event.Event.{Event}
use Rattle.markdown_base.specs.declared.event.Kind.{Kind}
use Rattle.markdown_base.specs.declared.event.Kind.TheVariants.{Enter, Exit}
use Rattle.markdown_base.specs.declared.event.Name.{Name}
use Rattle.markdown_base.specs.declared.event.Point.{Point}
use Rattle.markdown_base.specs.Events.{is_void, open_events, IsInOrder}
use Rattle.markdown_base.specs.Places.{stands_before, IsShown}
use Rattle.markdown_base.specs.OpenNames.{names_after_all}

-- the kind of the last event, or this one if there is none
abbrev pub last_kind : Kind → List Event → Kind
last_kind k [] = k
last_kind k (e ∷ es) = last_kind e.kind es

-- each exit of a void name directly follows an enter; the event before them all has this kind
abbrev pub VoidExitsFollow : (Name → Bool) → Kind → List Event → Type 0
VoidExitsFollow void k [] = Unit {0}
VoidExitsFollow void k (e ∷ es) = (e.kind ≡ Exit → void e.name ≡ true → k ≡ Enter) × VoidExitsFollow void e.kind es

-- `after_previous` is the place that an exit would have, `bound` the place that an enter would have
pub record IsMade (bytes : List ℕ) (events : List Event) (stack : List Name) (after_previous bound : Point) : Type 0 where
  -- the stack has the names of the open enters
  pub names : map (λ e. e.name) (open_events events) ≡ stack
  -- each exit ended the last open one
  pub nested : names_after_all (Some []) events ≡ Some (reverse stack)
  pub tight : VoidExitsFollow is_void Exit events
  pub in_order : IsInOrder bytes events
  -- no event is after `bound`; if the last one is no enter, none is after `after_previous`
  pub behind : All (λ e. stands_before bound e.point ≡ false) events
  pub read : last_kind Exit events ≡ Exit → All (λ e. stands_before after_previous e.point ≡ false) events
  pub left_bound : stands_before bound after_previous ≡ false
  pub left_shown : IsShown bytes after_previous
  pub bound_shown : IsShown bytes bound
