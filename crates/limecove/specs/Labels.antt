-- Where a label is defined in a document that a caller edits.
use Rattle.std.specs.Prelude.{◌≡◌, ◌≤◌, ◌&&◌, ℕ, not, nat_eq, Bool, List, [], ◌∷◌, Option, None, Some, cond, drop, length}
use Rattle.markdown_base.specs.declared.event.Event.{Event}
use Rattle.markdown_base.specs.declared.event.Name.TheVariants as name
use Rattle.markdown_base.specs.Events.{is_enter, same_name}
use Rattle.mdconstructs.specs.Divided.{Divided, bytes_of, events_between}
use Rattle.mdconstructs.specs.Lookups.{IsSectionAt}
use Rattle.mddocument_link_targets.specs.Targets.{definition_of}
use Rattle.mdinline_labels.specs.Labels.{normalised}
use Rattle.limecove.specs.declared.held.Held.{Held}
use Rattle.limecove.specs.declared.labels.Defined.{Defined}

-- the place of the first event
abbrev pub first_place : List Event → ℕ
first_place [] = 0
first_place (e ∷ es) = e.point.index

-- a definition ends at an event
abbrev pub ends_definition : Event → Bool
ends_definition e = not (is_enter e.kind) && same_name e.name name.Definition

-- where the first definition ends; no definition is in another
abbrev pub definition_end : List Event → ℕ
definition_end [] = 0
definition_end (e ∷ es) = cond (ends_definition e) e.point.index (definition_end es)

-- the events of the whole document
abbrev pub all_events : Divided → List Event
all_events d = events_between d 0 (length d.sections)

-- where a label is defined: the index of the first definition with this label among the events of the document
abbrev pub definition_in : Divided → (label : List ℕ) → Option ℕ
definition_in d label = definition_of (bytes_of d) (all_events d) (normalised label)

-- The first definition of a label is told: the section in which it begins, and its bytes
pub record IsTold (d : Divided) (label : List ℕ) (told : Defined) : Type 0 where
  pub at : ℕ
  pub first : definition_in d label ≡ Some at
  pub from : told.from ≡ first_place (drop at (all_events d))
  pub to : told.to ≡ definition_end (drop at (all_events d))
  pub section : IsSectionAt d.sections told.from told.section

-- It is told if there is one, and only then
abbrev pub IsDefinition : (label : List ℕ) → Held → Option Defined → Type 0
IsDefinition label held None = definition_in held.sections label ≡ None
IsDefinition label held (Some told) = IsTold held.sections label told

-- It was written over what was there, and is counted; if there is none, nothing was written
pub record TellsDefinition (label : List ℕ) (n : ℕ) (old new : Defined) (held : Held) : Type 0 where
  pub definition : IsDefinition label held (cond (nat_eq n 0) None (Some new))
  pub count : n ≤ 1
  pub unwritten : n ≡ 0 → new ≡ old
