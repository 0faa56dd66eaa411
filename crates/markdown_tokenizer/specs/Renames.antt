-- Events with other names, as a resolver may give them (`events_mut`). What comes: when a list is another one with other names
-- (`AreRenamed`), that it then stays well formed and in shape, and that names may be changed by any function that makes none void.
use Rattle.std.specs.Prelude.{◌≡◌, ℕ, ◌+◌, ◌<◌, true, List, map, Option, Some, option_map, slice_get}
use Rattle.std.specs.List.{between}
use Rattle.markdown_base.specs.declared.event.Event.{Event}
use Rattle.markdown_base.specs.declared.event.Kind.{Kind}
use Rattle.markdown_base.specs.declared.event.Kind.TheVariants.{Enter}
use Rattle.markdown_base.specs.declared.event.Link.{Link}
use Rattle.markdown_base.specs.declared.event.Name.{Name}
use Rattle.markdown_base.specs.declared.event.Point.{Point}
use Rattle.markdown_base.specs.Events.{IsBalanced, IsVoidTight, is_void}
use Rattle.markdown_edits.specs.Links.{IsEndedBy}
use Rattle.markdown_tokenizer.specs.Text.{Given}
use Rattle.markdown_tokenizer.specs.Engine.{IsWellFormed}
use Rattle.markdown_tokenizer.specs.Resolving.{IsInShape}

-- all of an event but its name
abbrev pub besides_name : Event → Kind × Point × Option Link
besides_name e = (e.kind, e.point, e.link)

-- the name of the event at an index
abbrev pub name_at : List Event → ℕ → Option Name
name_at events i = option_map (λ (e : Event). e.name) (slice_get events i)

-- a span begins at an index and ends at a later one: an enter, its exit, and a balanced list between them
pub record IsSpanAt (events : List Event) (i j : ℕ) : Type 0 where
  pub enter : Event
  pub exit : Event
  pub enter_at : slice_get events i ≡ Some enter
  pub exit_at : slice_get events j ≡ Some exit
  pub order : i < j
  pub enters : enter.kind ≡ Enter
  pub ended : IsEndedBy enter exit
  pub inside : IsBalanced (between (i + 1) j events)

-- The new list is the old one with other names: nothing else of an event changes, both ends of a span get one name, and a void name goes
-- only to spans that hold no event
pub record AreRenamed (old new : List Event) : Type 0 where
  pub same : map besides_name new ≡ map besides_name old
  pub alike : (i j : ℕ) → IsSpanAt old i j → name_at new i ≡ name_at new j
  pub void : (i : ℕ) (e : Event) → slice_get new i ≡ Some e → e.kind ≡ Enter → is_void e.name ≡ true → IsSpanAt old i (i + 1)

-- With other names events are still balanced, with each void span empty, in order and at places of the document; links are still mutual
-- and inside the list
abbrev pub RenamingKeeps : Type 0
RenamingKeeps = (g : Given) (old new : List Event) → AreRenamed old new → (IsWellFormed g old → IsWellFormed g new) × (IsInShape old → IsInShape new)

-- the event with its name changed by f
abbrev pub renamed_by : (Name → Name) → Event → Event
renamed_by f e = record e { name = f e.name }

-- only void names become void names
abbrev pub MakesNoneVoid : (Name → Name) → Type 0
MakesNoneVoid f = (n : Name) → is_void (f n) ≡ true → is_void n ≡ true

-- each name may be changed by one function, if that makes none void
abbrev pub NamesMayChange : Type 0
NamesMayChange = (f : Name → Name) (events : List Event) → MakesNoneVoid f → IsVoidTight events → AreRenamed events (map (renamed_by f) events)
