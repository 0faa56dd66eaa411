-- A linter: the headings, fences and links of a document, by its events, and the problems with them. The definitions have no states.
use Rattle.std.specs.List.{filter}
use Rattle.std.specs.Option.{is_none, option_map_or, option_to_list}
use Rattle.std.specs.Prelude.{ℕ, ◌+◌, ◌-◌, ◌==◌, ◌||◌, ◌&&◌, not, nat_lt, Bool, true, cond, List, [], ◌∷◌, ◌++◌, drop, length, map, Option, None, Some, option_and_then, option_map}
use Rattle.markdown.specs.declared.event.Event.{Event}
use Rattle.markdown.specs.declared.event.Name.{Name}
use Rattle.markdown.specs.declared.event.Name.TheVariants as name
use Rattle.markdown.specs.Events.{is_enter, same_name}
pub use Rattle.mdconstructs.specs.Ranks.{byte_of_first, enters, from_first, rank_at, size_of_first}
use Rattle.mdconstructs.specs.declared.targets.Parts.{Parts}
use Rattle.mdconstructs.specs.declared.targets.Target.{Target}
use Rattle.mdconstructs.specs.declared.targets.Target.TheVariants as target
use Rattle.mdconstructs.specs.Targets.{decoded_at, definition_of, parts_of, target_of}
use Rattle.mdexamples.specs.declared.linter.Fence.{Fence}
use Rattle.mdexamples.specs.declared.linter.FoundLink.{FoundLink}
use Rattle.mdexamples.specs.declared.linter.Heading.{Heading}
use Rattle.mdexamples.specs.declared.linter.Problem.{Problem}
use Rattle.mdexamples.specs.declared.linter.Rule.{Rule}
use Rattle.mdexamples.specs.declared.linter.Rule.TheVariants as rule

-- ---- walks over events

-- an event exits a span of this name
abbrev pub exits : Name → Event → Bool
exits n e = not (is_enter e.kind) && same_name e.name n

-- what is found at each event, by the event and those behind it
abbrev pub at_each : {A : Type 0} → (Event → List Event → Option A) → List Event → List A
at_each found [] = []
at_each found (e ∷ es) = option_to_list (found e es) ++ at_each found es

-- ---- headings

-- an event enters the info of a fence, or exits a fence
abbrev pub is_info_or_end : Event → Bool
is_info_or_end e = enters name.CodeFencedFenceInfo e || exits name.CodeFencedFence e

module _ (bytes : List ℕ) where
  -- the heading that an event enters, by the events behind it
  abbrev pub heading_at : Event → (behind : List Event) → Option Heading
  heading_at e es = option_map (λ rank. record { line = e.point.line; rank = rank }) (rank_at bytes e es)

  -- the headings of a document, in their order
  abbrev pub headings : List Event → List Heading
  headings events = at_each heading_at events

  -- ---- fenced code

  -- The language of fenced code, by the events behind its enter: the decoded text of the info, if the opening fence has one. "The first word of the info
  -- string is typically used to specify the language of the code sample" (4.5)
  abbrev pub language_behind : List Event → Option (List ℕ)
  language_behind es = decoded_at bytes (from_first is_info_or_end es) 0

  abbrev pub fence_at : Event → (behind : List Event) → Option Fence
  fence_at e es = cond (enters name.CodeFenced e) (Some (record { line = e.point.line; language = language_behind es })) None

  -- the fenced code of a document, in its order
  abbrev pub fences : List Event → List Fence
  fences events = at_each fence_at events

  -- ---- links and images

  -- What a target says among the events of a document; of a label what its first definition says (6.3)
  abbrev pub said : (events : List Event) → Target → Option Parts
  said events (target.Parts parts) = Some parts
  said events (target.Label label) = option_and_then (parts_of bytes events) (definition_of bytes events label)

  -- the link or image that the first of these events enters
  abbrev pub link_at : (events : List Event) → (from : List Event) → Option FoundLink
  link_at events [] = None
  link_at events (e ∷ es) =
      option_map (λ t. record { line = e.point.line; is_image = same_name e.name name.Image; parts = said events t }) (target_of bytes (e ∷ es) 0)

  -- the links and images of a document, in the order in which they begin
  abbrev pub links : List Event → List FoundLink
  links events = at_each (λ e es. link_at events (e ∷ es)) events

-- ---- problems

-- a rule is broken at a line
abbrev pub broken : Rule → (line : ℕ) → Problem
broken r line = record { line = line; rule = r }

-- Headings whose rank is more than one above that of the heading before
abbrev pub skipping : List Heading → List Heading
skipping [] = []
skipping (h ∷ []) = []
skipping (h ∷ k ∷ ks) = cond (nat_lt 1 (k.rank - h.rank)) (k ∷ []) [] ++ skipping (k ∷ ks)

-- headings of rank 1 behind the first one
abbrev pub titles : List Heading → List Heading
titles hs = filter (λ h. h.rank == 1) hs

-- a link has no destination
abbrev pub leads_nowhere : FoundLink → Bool
leads_nowhere l = option_map_or (λ (parts : Parts). length parts.destination == 0) l.parts true

-- what is reported of headings, of fenced code, and of links and images
abbrev pub skipped_ranks : List Heading → List Problem
skipped_ranks hs = map (λ h. broken rule.SkippedRank h.line) (skipping hs)

abbrev pub second_titles : List Heading → List Problem
second_titles hs = map (λ h. broken rule.SecondTitle h.line) (drop 1 (titles hs))

abbrev pub missing_languages : List Fence → List Problem
missing_languages fs = map (λ f. broken rule.NoLanguage f.line) (filter (λ f. is_none f.language) fs)

abbrev pub missing_destinations : List FoundLink → List Problem
missing_destinations ls = map (λ l. broken rule.NoDestination l.line) (filter leads_nowhere ls)

-- The problems of a document, by its events: rule by rule, and of each rule in the order of the document
abbrev pub problems_in : (bytes : List ℕ) → List Event → List Problem
problems_in bytes events =
    skipped_ranks (headings bytes events)
    ++ (second_titles (headings bytes events) ++ (missing_languages (fences bytes events) ++ missing_destinations (links bytes events)))
