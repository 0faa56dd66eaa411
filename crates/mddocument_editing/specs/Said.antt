-- Inner: what definitions say, and which labels links are by, for private functions.
use Rattle.std.specs.Prelude.{◌≡◌, ℕ, cond, List, [], ◌∷◌, ◌++◌, Option, None, Some, bytes_eq, option_to_list, slice_get, option_and_then, option_map}
use Rattle.std.specs.List.{AllByRecursion}
use Rattle.std.specs.Map.{lookup}
use Rattle.markdown_base.specs.declared.event.Event.{Event}
use Rattle.markdown_base.specs.declared.event.Name.TheVariants as name
use Rattle.mddocument_link_targets.specs.declared.targets.Parts.{Parts}
use Rattle.mddocument_link_targets.specs.Spans.{enters, inside}
use Rattle.mddocument_link_targets.specs.Targets.{defined_label, definition_parts, enters_link, label_by, target_in}
use Rattle.mddocument_editing.specs.declared.leads.Leads.{Leads}
use Rattle.mddocument_editing.specs.declared.linking.Linking.{Linking}
use Rattle.mddocument_editing.specs.declared.said.Said.{Said}

module _ (bytes : List ℕ) where
  -- the definition that the first of events enters, if it enters one
  abbrev pub said_at : List Event → Option Said
  said_at [] = None
  said_at (e ∷ es) = cond (enters name.Definition e) (Some (record { label = defined_label bytes (inside es); parts = definition_parts bytes (inside es) })) None

  -- the definitions among events, in order
  abbrev pub saids : List Event → List Said
  saids [] = []
  saids (e ∷ es) = option_to_list (said_at (e ∷ es)) ++ saids es

  -- the label that the link or the image goes by that the first of events enters, if it enters one without a resource
  abbrev pub link_label : List Event → Option (List ℕ)
  link_label [] = None
  link_label (e ∷ es) = cond (enters_link e) (label_by (target_in bytes (inside es))) None

  -- the labels that links and images among events go by, from the last one to the first
  abbrev pub link_labels : List Event → List (List ℕ)
  link_labels [] = []
  link_labels (e ∷ es) = link_labels es ++ option_to_list (link_label (e ∷ es))

  -- what links go by that are among events
  abbrev pub linking : List Event → Linking
  linking events = record { saids = saids events; labels = link_labels events }

-- what the first definition of a label says
abbrev pub said_of : List Said → (label : List ℕ) → Option Parts
said_of [] label = None
said_of (s ∷ more) label = cond (bytes_eq label s.label) (Some s.parts) (said_of more label)

-- the same, by where it is
abbrev pub said_by : Leads → (label : List ℕ) → Option Parts
said_by leads label =
    option_and_then (λ at. option_map (λ (s : Said). s.parts) (slice_get leads.all.items at)) (lookup (λ known. bytes_eq label known.items) leads.indices.entries)

-- labels lead where they led
abbrev pub LeadAsBefore : (old new : List ℕ → Option Parts) → List (List ℕ) → Type 0
LeadAsBefore old new labels = AllByRecursion (λ label. new label ≡ old label) labels
