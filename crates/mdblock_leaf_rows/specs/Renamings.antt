-- Events that edits rename. Each is replaced by itself under one name or more.
use Rattle.std.specs.Prelude.{◌≡◌, ℕ, ◌+◌, false, List, [], ◌∷◌, map, Some}
use Rattle.std.specs.List.{AllByRecursion, flat_map}
use Rattle.markdown_base.specs.declared.event.Event.{Event}
use Rattle.markdown_base.specs.declared.event.Name.{Name as EventName}
use Rattle.markdown_base.specs.Events.{is_void, unlinked}
use Rattle.markdown_edits.specs.Edits.{Edit, edit_at}
use Rattle.markdown_base.specs.OpenNames.{names_after_all}
use Rattle.mdblock_leaf_rows.specs.HeadingEdits.{under}

-- An event, which is kept, or gets these names in place of its own
pub data Told : Type 0 where
  kept : Event → Told
  renamed : Event → List EventName → Told

-- what was told
abbrev pub event_of : Told → Event
event_of (kept e) = e
event_of (renamed e names) = e

-- the events that come of it
abbrev pub events_of : Told → List Event
events_of (kept e) = e ∷ []
events_of (renamed e names) = map (under e) names

-- the events before and after the edits
abbrev pub old : List Told → List Event
old ts = map event_of ts

abbrev pub new : List Told → List Event
new ts = flat_map events_of ts

-- the edits, of events from an index on
abbrev pub edits_from : ℕ → List Told → List Edit
edits_from i [] = []
edits_from i (kept e ∷ ts) = edits_from (i + 1) ts
edits_from i (renamed e names ∷ ts) = edit_at i 1 (map (under e) names) ∷ edits_from (i + 1) ts

-- a name that is no void name is given to an event that has one
abbrev pub IsNotVoid : Told → Type 0
IsNotVoid (kept e) = Unit {0}
IsNotVoid (renamed e names) = (is_void e.name ≡ false) × AllByRecursion (λ n. is_void n ≡ false) names

-- The events, up to the ends of their links, are these, and the edits that wait give them their names
pub record AreTold (ts : List Told) (events : List Event) (edits : List Edit) : Type 0 where
  pub events_are : map unlinked events ≡ old ts
  pub edits_are : edits ≡ edits_from 0 ts
  pub no_void : AllByRecursion IsNotVoid ts

-- as many spans are open after the edits as before them, under the same names
abbrev pub SameOpen : List Told → Type 0
SameOpen ts = names_after_all (Some []) (new ts) ≡ names_after_all (Some []) (old ts)
