-- What links and images lead to (CommonMark 0.31, 6.3 "Links", 6.4 "Images"), and what link reference definitions say (4.7), by the events of a
-- document. The definitions have no states.
use Rattle.std.specs.Prelude.{ℕ, suc, ◌&&◌, ◌||◌, Bool, cond, List, [], ◌∷◌, drop, Option, None, Some, bytes_eq, option_map}
use Rattle.std.specs.Option.{option_or}
use Rattle.markdown_base.specs.declared.event.Event.{Event}
use Rattle.markdown_base.specs.declared.event.Name.{Name}
use Rattle.markdown_base.specs.declared.event.Name.TheVariants as name
use Rattle.markdown_base.specs.Events.{is_enter}
use Rattle.mdinline_labels.specs.Labels.{normalised}
use Rattle.mddocument_link_targets.specs.declared.targets.Parts.{Parts}
use Rattle.mddocument_link_targets.specs.declared.targets.Target.{Target}
use Rattle.mddocument_link_targets.specs.declared.targets.Target.TheVariants as target
use Rattle.mddocument_link_targets.specs.Spans.{behind, enters, first_in, inside, inside_at}
use Rattle.mddocument_link_targets.specs.Strings.{as_written, decoded}

-- the label that a link or an image goes by, if it has no resource
abbrev pub label_by : Target → Option (List ℕ)
label_by (target.Parts parts) = None
label_by (target.Label label) = Some label

-- an event enters a link or an image
abbrev pub enters_link : Event → Bool
enters_link e = enters name.Link e || enters name.Image e

module _ (bytes : List ℕ) where
  -- the decoded text of the first string of a name among events; nothing, if there is none: an empty string has no span
  abbrev pub string_in : Name → List Event → List ℕ
  string_in n es = elim (first_in n es) [ None ↦ [] | Some string ↦ decoded bytes string ]

  -- the decoded text of the string that is entered at an index; nothing, where no span is
  abbrev pub decoded_at : List Event → (at : ℕ) → Option (List ℕ)
  decoded_at events at = option_map (decoded bytes) (inside_at (λ e. is_enter e.kind) at events)

  -- The destination, and the title if there is one, by the names of the destination's string, of the title and of the title's string
  abbrev pub parts_in : (destination title title_string : Name) → List Event → Parts
  parts_in destination title title_string es =
      record { destination = string_in destination es; title = option_map (string_in title_string) (first_in title es) }

  abbrev pub resource_parts : List Event → Parts
  resource_parts es = parts_in name.ResourceDestinationString name.ResourceTitle name.ResourceTitleString es

  abbrev pub definition_parts : List Event → Parts
  definition_parts es = parts_in name.DefinitionDestinationString name.DefinitionTitle name.DefinitionTitleString es

  -- the text of a string as it is written, by the events in it, if it is there
  abbrev pub written : Option (List Event) → List ℕ
  written None = []
  written (Some string) = as_written bytes string

  -- The label by which a link or an image is looked up, by its own label and what is behind that: that of its reference, or, of a collapsed reference
  -- and of a shortcut, its own. Labels are compared as they are written, with escapes and references as they stand
  abbrev pub label_of : (own tail : List Event) → List ℕ
  label_of own tail = normalised (written (option_or (first_in name.ReferenceString tail) (first_in name.LabelText own)))

  -- What a link or an image leads to, by its own label and what is behind that: "an inline link consists of a link text followed immediately by ..
  -- an optional link destination, an optional link title"; of a reference "the URI and title are provided by the matching link reference
  -- definition" (6.3)
  abbrev pub target_behind : (own tail : List Event) → Target
  target_behind own tail = elim (first_in name.Resource tail) [ None ↦ target.Label (label_of own tail) | Some resource ↦ target.Parts (resource_parts resource) ]

  -- the same by the events in the link, of which the first enters its label
  abbrev pub target_in : List Event → Target
  target_in link = target_behind (inside (drop 1 link)) (behind (drop 1 link))

  -- What the link or the image that is entered at an index leads to; nothing, where none is
  abbrev pub target_of : List Event → (at : ℕ) → Option Target
  target_of events at = option_map target_in (inside_at enters_link at events)

  -- What the definition that is entered at an index says; nothing, where none is
  abbrev pub parts_of : List Event → (at : ℕ) → Option Parts
  parts_of events at = option_map definition_parts (inside_at (enters name.Definition) at events)

  -- the label of a definition, by the events in it
  abbrev pub defined_label : List Event → List ℕ
  defined_label es = normalised (written (first_in name.DefinitionLabelString es))

  -- the label of the definition that is entered at an index; nothing, where none is
  abbrev pub label_at : List Event → (at : ℕ) → Option (List ℕ)
  label_at events at = option_map defined_label (inside_at (enters name.Definition) at events)

  -- Where a label is defined: the index of the first definition with this label. "If there are several matching definitions, the first one takes
  -- precedence" (4.7)
  abbrev pub definition_from : (label : List ℕ) → (at : ℕ) → List Event → Option ℕ
  definition_from label at [] = None
  definition_from label at (e ∷ es) =
      cond (enters name.Definition e && bytes_eq label (defined_label (inside es))) (Some at) (definition_from label (suc at) es)

  abbrev pub definition_of : List Event → (label : List ℕ) → Option ℕ
  definition_of events label = definition_from label 0 events
