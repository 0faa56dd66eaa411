-- What is promised of links as they are made: where they lead, and that emphasis in their texts keeps what is written.
use Rattle.std.specs.Prelude.{◌≡◌, ◌<◌, ◌+◌, ℕ, false, List, [], ◌∷◌, ◌++◌, length, None}
use Rattle.std.specs.List.{AllByRecursion, slice_range}
use Rattle.markdown_base.specs.declared.event.Event.{Event}
use Rattle.markdown_base.specs.declared.event.Kind.TheVariants.{Enter}
use Rattle.markdown_base.specs.declared.event.Name.{Name}
use Rattle.markdown_base.specs.declared.event.Name.TheVariants.{Label, LabelText, ReferenceString, Resource}
use Rattle.markdown_base.specs.Events.{IsBalanced}
use Rattle.markdown_base.specs.Virtual.{Seat}
use Rattle.mdinline_emphasis.specs.Emphasis.{Run}
use Rattle.mdinline_emphasis.specs.Places.{markers}
use Rattle.mdinline_emphasis.specs.RunEdits.{in_place}
use Rattle.mdinline_labels.specs.Labels.{normalised}
use Rattle.mdinline_full_references.specs.FullReference.{full_reference}
use Rattle.mdinline_link_tails.specs.Resource.{string_events, unmarked}
use Rattle.mdinline_links.specs.Linked.{Part, around, emphasised_parts, label_text}
use Rattle.mddocument_link_targets.specs.declared.targets.Target.TheVariants as target
use Rattle.mddocument_link_targets.specs.Spans.{enters, first_in}
use Rattle.mddocument_link_targets.specs.Strings.{as_written}
use Rattle.mddocument_link_targets.specs.Targets.{target_behind, target_in}

-- no event enters a span of this name
abbrev pub EntersNone : Name → List Event → Type 0
EntersNone name es = AllByRecursion (λ (e : Event). enters name e ≡ false) es

-- What is in a link or an image (`made`), by its bracket, its parts, its end and its tail, leads to the label that its text is, as it is written, if in the
-- tail is neither a resource nor a label
abbrev pub MadeByTexts : Type 0
MadeByTexts =
    (bytes : List ℕ) (e : Event) (es : List Event) (part : Part) (parts : List Part) (f : Event) (fs tail : List Event) → IsBalanced (e ∷ es) → IsBalanced (f ∷ fs) → IsBalanced tail
    → IsBalanced (emphasised_parts (part ∷ parts)) → EntersNone LabelText (e ∷ es) → first_in Resource tail ≡ None → first_in ReferenceString tail ≡ None
    → target_in bytes (around Label ((e ∷ es) ++ (label_text (e ∷ es) (f ∷ fs) (part ∷ parts) ++ f ∷ fs)) ++ tail) ≡ target.Label (normalised (as_written bytes (emphasised_parts (part ∷ parts))))

-- And with a full reference behind it, it leads to the label that stands there, as it is written
abbrev pub MadeByLabels : Type 0
MadeByLabels =
    (bytes : List ℕ) (own : List Event) (n : ℕ) (s : Seat) (ss : List Seat) → 0 < length (unmarked bytes (s ∷ ss))
    → target_behind bytes own ((full_reference n).events bytes (s ∷ ss)) ≡ target.Label (normalised (as_written bytes (string_events bytes (unmarked bytes (s ∷ ss)))))

-- events begin with an enter, or there are none
abbrev pub BeginsWithEnter : List Event → Type 0
BeginsWithEnter [] = Unit {0}
BeginsWithEnter (e ∷ es) = e.kind ≡ Enter

-- Emphasis keeps what is written: what it puts in the place of a delimiter run, before a span or at the end, gives the bytes of the run
abbrev pub RunsAreWritten : Type 0
RunsAreWritten =
    (bytes : List ℕ) (r : Run) (es : List Event) → BeginsWithEnter es
    → as_written bytes (in_place r ++ es) ≡ slice_range bytes r.start.index (r.start.index + markers r) ++ as_written bytes es
