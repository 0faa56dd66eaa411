-- What is promised of where inline text stands.
use Rattle.std.specs.Prelude.{◌≡◌, ◌||◌, ℕ, Bool, List, [], true, false}
use Rattle.std.specs.List.{AllByRecursion}
use Rattle.markdown_base.specs.declared.configuration.ParseOptions.{ParseOptions}
use Rattle.markdown_base.specs.declared.event.Event.{Event}
use Rattle.markdown_base.specs.declared.event.Name.{Name}
use Rattle.markdown_base.specs.declared.event.Name.TheVariants.{LabelEnd}
use Rattle.markdown_base.specs.Events.{IsBalanced}
use Rattle.markdown_base.specs.Virtual.{Seat}
use Rattle.mdinline_emphasis.specs.Emphasis.{Run, emphasised}
use Rattle.mdinline_emphasis.specs.LawStatements.{AreFresh}
use Rattle.mdinline_links.specs.Linked.{is_bracket, is_named, is_tail, outermost_spans, with_links}
use Rattle.mdblock_containers.specs.Lists.{list_names}
use Rattle.mddocument.specs.FlowTexts.{inline_seat_events}
use Rattle.mddocument_rules.specs.Standing.{all_stand, is_in, is_outside_links, may_stand, text_names}

-- Balanced events that may stand in each text
abbrev pub StandInTexts : List Event → Type 0
StandInTexts es = IsBalanced es × ((around : List Name) → is_in text_names around ≡ true → all_stand may_stand around es ≡ true)

-- If what is between delimiter runs stands in texts, so does what emphasis makes of it
abbrev pub EmphasisStands : Type 0
EmphasisStands =
    (texts : ℕ → List Event) (rs : List Run) (rest : List Event) → AreFresh texts rs → ((k : ℕ) → StandInTexts (texts k)) → StandInTexts rest → StandInTexts (emphasised texts rs rest)

-- balanced events that may stand in each span but a list
abbrev pub StandApart : List Event → Type 0
StandApart es = IsBalanced es × ((around : List Name) → is_in list_names around ≡ false → all_stand may_stand around es ≡ true)

-- a span that a link or an image is made of: its bracket, its end, or its tail
abbrev pub is_of_link : List Event → Bool
is_of_link span = is_bracket span || (is_named LabelEnd span || is_tail span)

-- An outermost span of a text, before links are made
pub record IsPiece (span : List Event) : Type 0 where
  pub in_texts : StandInTexts span
  pub apart : is_of_link span ≡ true → StandApart span

-- If the outermost spans of a text are such, it stands in texts with links, images and emphasis in place of its brackets and runs
abbrev pub LinksStand : Type 0
LinksStand = (one_tilde : Bool) (bytes : List ℕ) (es : List Event) → AllByRecursion IsPiece (outermost_spans es) → StandInTexts (with_links one_tilde bytes es)

-- So inline text stands in texts, whichever labels are defined
abbrev pub InlineTextStands : Type 0
InlineTextStands = (defined : List ℕ → Bool) (options : ParseOptions) (bytes : List ℕ) (seats : List Seat) → StandInTexts (inline_seat_events defined options bytes seats)

-- "Links may not contain other links, at any level of nesting" (6.3): so it is of inline text, whichever labels are defined
abbrev pub NoLinkInALinkOfText : Type 0
NoLinkInALinkOfText = (defined : List ℕ → Bool) (options : ParseOptions) (bytes : List ℕ) (seats : List Seat) → all_stand is_outside_links [] (inline_seat_events defined options bytes seats) ≡ true
