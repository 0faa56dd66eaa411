-- A list of events after changes, by the identities of its events: a link end names an event, and its place is read off the new list. (The
-- crate's comments on `EditMap`: indices move, links stay.)
use Rattle.std.specs.Prelude.{ℕ, suc, ◌+◌, ◌≤◌, Bool, false, ◌&&◌, ◌==◌, nat_le, nat_lt, List, [], ◌∷◌, ◌++◌, map, Option, Some, None, option_map, if◌then◌else◌}
use Rattle.std.specs.List.{list_any, flat_map}
use Rattle.markdown_base.specs.declared.event.Event.{Event}
use Rattle.markdown_base.specs.Events.{relinked}

-- the identity of an event: the event at an index of the old list; event j of the child of the chain whose first chunk is at an index of
-- the old list; or an addition, whose link ends are places in the new list
pub data Identity : Type 0 where
  of_list : ℕ → Identity
  of_child : ℕ → ℕ → Identity
  of_addition : Identity

-- an event with its identity
pub record Tagged : Type 0 where
  pub identity : Identity
  pub event : Event

-- whether an event has the identity; no link names an addition
abbrev pub is_same : Identity → Identity → Bool
is_same (of_list i) (of_list j) = i == j
is_same (of_child c i) (of_child d j) = (c == d) && (i == j)
is_same (of_list i) (of_child d j) = false
is_same (of_list i) of_addition = false
is_same (of_child c i) (of_list j) = false
is_same (of_child c i) of_addition = false
is_same of_addition b = false

-- the place of the event with an identity in a list, None if it is not there
abbrev pub place_in : Identity → List Tagged → Option ℕ
place_in b [] = None
place_in b (t ∷ ts) = if is_same b t.identity then Some 0 else option_map suc (place_in b ts)

-- the place to which the link end n of an event leads: n is an index into the list or the child that has the event
abbrev pub placed_end : List Tagged → Identity → ℕ → Option ℕ
placed_end ts (of_list _) n = place_in (of_list n) ts
placed_end ts (of_child c _) n = place_in (of_child c n) ts
placed_end ts of_addition n = Some n

-- the events us, with their link ends as places in the list ts
abbrev pub placed_in : List Tagged → List Tagged → List Event
placed_in ts us = map (λ u. relinked (placed_end ts u.identity) u.event) us

-- the events of a list, with their link ends as places in it
abbrev pub placed : List Tagged → List Event
placed ts = placed_in ts ts

-- from an index on `remove` events go, and these come in their place
pub record Change : Type 0 where
  pub index : ℕ
  pub remove : ℕ
  pub events : List Tagged

-- the events that come at an index
abbrev pub events_at : List Change → ℕ → List Tagged
events_at ws i = flat_map (λ w. if w.index == i then w.events else []) ws

-- whether some change removes the event at an index
abbrev pub is_removed : List Change → ℕ → Bool
is_removed ws i = list_any (λ w. nat_le w.index i && nat_lt i (w.index + w.remove)) ws

-- an event of the list before
abbrev pub as_listed : ℕ → Event → Tagged
as_listed i e = record { identity = of_list i; event = e }

-- at each index from i to the length: the events that come there, then the event there unless a change removes it
abbrev pub woven : List Change → ℕ → List Event → List Tagged
woven ws i [] = events_at ws i
woven ws i (x ∷ xs) = events_at ws i ++ ((if is_removed ws i then [] else as_listed i x ∷ []) ++ woven ws (i + 1) xs)

-- the list after all changes at once
abbrev pub changed : List Change → List Event → List Event
changed ws xs = placed (woven ws 0 xs)

-- the first change starts at or behind `from`, each ends at or before the index of the next, and the last ends within n events
abbrev pub AreApart : ℕ → List Change → ℕ → Type 0
AreApart from [] n = from ≤ n
AreApart from (e ∷ es) n = (from ≤ e.index) × AreApart (e.index + e.remove) es n
