-- What links and images of a section lead to.
use Rattle.std.specs.Prelude.{ℕ, cond, List, [], ◌∷◌, ◌++◌, Option, None, Some, option_and_then}
use Rattle.std.specs.Option.{option_or}
use Rattle.markdown_base.specs.declared.event.Event.{Event}
use Rattle.mddocument_link_targets.specs.declared.targets.Parts.{Parts}
use Rattle.mddocument_link_targets.specs.declared.targets.Target.{Target}
use Rattle.mddocument_link_targets.specs.declared.targets.Target.TheVariants as target
use Rattle.mddocument_link_targets.specs.Spans.{inside}
use Rattle.mddocument_link_targets.specs.Targets.{definition_of, enters_link, parts_of, target_in}
use Rattle.mddocument_editing.specs.Divided.{Divided, section_events}

-- what the first definition of a label in a section says, if there is one; by how the section is read
abbrev pub said_in : (read : List ℕ → List Event) → (section label : List ℕ) → Option Parts
said_in read section label = option_and_then (parts_of section (read section)) (definition_of section (read section) label)

-- the same in sections: "If there are several matching definitions, the first one takes precedence" (CommonMark 0.31, 4.7)
abbrev pub first_said : (read : List ℕ → List Event) → (sections : List (List ℕ)) → (label : List ℕ) → Option Parts
first_said read [] label = None
first_said read (section ∷ more) label = option_or (said_in read section label) (first_said read more label)

module _ (leads_to : List ℕ → Option Parts) where
  -- what a link leads to: what its resource says, or what its label leads to
  abbrev pub resolved : Target → Option Parts
  resolved (target.Parts parts) = Some parts
  resolved (target.Label label) = leads_to label

  -- what the links and images among the events of a section lead to, in order
  abbrev pub targets_in : (section : List ℕ) → List Event → List (Option Parts)
  targets_in section [] = []
  targets_in section (e ∷ es) = cond (enters_link e) (resolved (target_in section (inside es)) ∷ []) [] ++ targets_in section es

-- what a label leads to in a document
abbrev pub leads_to : Divided → (label : List ℕ) → Option Parts
leads_to d label = first_said (section_events d) d.sections label

-- what the links and images of a section lead to in a document
abbrev pub section_targets : Divided → (section : List ℕ) → List (Option Parts)
section_targets d section = targets_in (leads_to d) section (section_events d section)
