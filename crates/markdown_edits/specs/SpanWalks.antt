-- Walks over lists of events: whole spans of wanted names, and the nearest event with a wanted name.
use Rattle.std.specs.Prelude.{◌≡◌, ℕ, ◌+◌, ◌≤◌, max, Bool, true, false, List, [], ◌∷◌, ◌++◌, length, slice_get, All, IfSome, IsSomeAnd}
use Rattle.std.specs.List.{list_any, between}
use Rattle.markdown_base.specs.declared.event.Event.{Event}
use Rattle.markdown_base.specs.declared.event.Kind.TheVariants.{Enter, Exit}
use Rattle.markdown_base.specs.declared.event.Name.{Name}
use Rattle.markdown_base.specs.Events.{IsBalanced, same_name}

-- whether a name is one of the wanted ones
abbrev pub is_wanted : List Name → Name → Bool
is_wanted names name = list_any (λ wanted. same_name wanted name) names

-- a whole span of a wanted name: an enter of it, a balanced list, and its exit
pub record IsSpan (names : List Name) (events : List Event) : Type 0 where
  pub enter : Event
  pub inside : List Event
  pub exit : Event
  pub whole : events ≡ enter ∷ (inside ++ exit ∷ [])
  pub enters : enter.kind ≡ Enter
  pub wanted : is_wanted names enter.name ≡ true
  pub balanced : IsBalanced inside
  pub exits : exit.kind ≡ Exit
  pub same : exit.name ≡ enter.name

-- a run: whole spans of wanted names, each directly behind the one before
pub data IsSpanRun (names : List Name) : List Event → Type 0 where
  no_span : IsSpanRun names []
  one_more : (first rest : List Event) {l : List Event} → l ≡ first ++ rest → IsSpan names first → IsSpanRun names rest → IsSpanRun names l

-- the longest run that begins at `from` ends before `to`; it is empty if `from` is past the end
pub record IsLongestRunFrom (names : List Name) (events : List Event) (from to : ℕ) : Type 0 where
  pub run : IsSpanRun names (between from to events)
  pub order : from ≤ to
  pub within : to ≤ max from (length events)
  pub longest : (n : ℕ) → n ≤ length events → IsSpanRun names (between from n events) → n ≤ to

-- the longest run that ends with the event at an index begins at `start`; if it is empty, `start` is the index after the event
pub record IsLongestRunTo (names : List Name) (events : List Event) (index start : ℕ) : Type 0 where
  pub run : IsSpanRun names (between start (index + 1) events)
  pub order : start ≤ index + 1
  pub longest : (n : ℕ) → n ≤ index + 1 → IsSpanRun names (between n (index + 1) events) → start ≤ n

-- a front of a balanced list
abbrev pub IsFront : List Event → Type 0
IsFront events = (rest : List Event) × IsBalanced (events ++ rest)

-- an event has a wanted name
abbrev pub HasWanted : List Name → Event → Type 0
HasWanted names e = is_wanted names e.name ≡ true

-- an event has another name
abbrev pub HasOther : List Name → Event → Type 0
HasOther names e = is_wanted names e.name ≡ false

-- the first event at or after `from` with a wanted name, enter or exit, is at `to`; if none follows, `to` is the length; if `from` is past
-- the end, `to` is `from`
pub record IsFirstWanted (names : List Name) (events : List Event) (from to : ℕ) : Type 0 where
  pub order : from ≤ to
  pub within : to ≤ max from (length events)
  pub others : All (HasOther names) (between from to events)
  pub wanted : IfSome (slice_get events to) (HasWanted names)

-- the last event at or before `from` with a wanted name, enter or exit, is at `to`
pub record IsLastWanted (names : List Name) (events : List Event) (from to : ℕ) : Type 0 where
  pub order : to ≤ from
  pub wanted : IsSomeAnd (slice_get events to) (HasWanted names)
  pub others : All (HasOther names) (between (to + 1) (from + 1) events)
