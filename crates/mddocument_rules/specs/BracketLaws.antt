-- What is promised of brackets: the walk over the items of a text remembers which wait (`Memory`), and so does the fold that makes links (`linked_from`).
use Rattle.std.specs.Prelude.{◌≡◌, ◌⊎◌, ℕ, Bool, true, false, List, [], ◌∷◌, ◌++◌, drop, length, map, Some}
use Rattle.std.specs.List.{flat_map, list_any}
use Rattle.markdown_base.specs.declared.configuration.Constructs.{Constructs}
use Rattle.markdown_base.specs.declared.event.Event.{Event}
use Rattle.markdown_base.specs.declared.event.Name.TheVariants.{LabelEnd, LabelImage}
use Rattle.markdown_base.specs.Virtual.{Seat}
use Rattle.mdinline_emphasis.specs.Emphasis.{Run}
use Rattle.mdinline_full_references.specs.FullReference.{full_reference, label_length, label_text}
use Rattle.mdinline_link_tails.specs.Resource.{resource_grammar}
use Rattle.mdinline_links.specs.Linked.{Part, SoFar, Waiting, is_bracket, is_named, linked_from, outermost_spans, part_of}
use Rattle.mdinline_text_machine.specs.Construct.{Found, makes}
use Rattle.mdinline_text_machine.specs.Parts.{bytes_of}
use Rattle.mdinline_text_machine.specs.TextEvents.{item_events}
use Rattle.mdinline_machine.specs.Brackets.{Bracket, Memory, after_item, bytes_before, is_defined_label, is_wanted_at, label_end, nothing_read, own_is_defined, own_tail}
use Rattle.mdinline_machine.specs.InlineEvents.{inline_items}

-- what is remembered behind items
abbrev pub remembered : (bytes : List ℕ) → Memory → List (Found × List Seat) → Memory
remembered bytes m [] = m
remembered bytes m (i ∷ items) = remembered bytes (after_item bytes m i.0) items

-- what the fold has behind outermost spans, in a text of these runs
abbrev pub folded : List Run → List (List Event) → SoFar
folded runs spans = linked_from (record { waiting = []; behind = []; runs = runs }) spans

-- for each bracket that waits, the last one first, whether it is of an image: by the memory, and by the fold
abbrev pub kinds_remembered : Memory → List Bool
kinds_remembered m = map (λ (b : Bracket). b.image) m.waiting

abbrev pub kinds_folded : SoFar → List Bool
kinds_folded z = map (λ (w : Waiting). is_named LabelImage w.opener) z.waiting

-- Behind each item of a text the same brackets wait in both walks
abbrev pub WalksAreOne : Type 0
WalksAreOne =
    (defined : List ℕ → Bool) (on : Constructs) (bytes : List ℕ) (seats : List Seat) (runs : List Run) (front rest : List (Found × List Seat)) → inline_items on defined bytes seats ≡ front ++ rest
    → kinds_remembered (remembered bytes (nothing_read seats) front) ≡ kinds_folded (folded runs (outermost_spans (flat_map (item_events bytes) front)))

-- So each end that makes a link or an image makes it of a bracket that waits
abbrev pub EndsHaveBrackets : Type 0
EndsHaveBrackets =
    (defined : List ℕ → Bool) (on : Constructs) (bytes : List ℕ) (seats : List Seat) (runs : List Run) (front : List (List Event)) (span : List Event) (rest : List (List Event))
    → outermost_spans (flat_map (item_events bytes) (inline_items on defined bytes seats)) ≡ front ++ span ∷ rest → is_named LabelEnd span ≡ true
    → (w : Waiting) × (ws : List Waiting) × ((folded runs front).waiting ≡ w ∷ ws)

-- The outermost spans of a text up to the end of a bracket, which remembers how many events those are, and the spans behind it
pub record SpansAround (spans : List (List Event)) (b : Bracket) : Type 0 where
  pub before : List (List Event)
  pub behind : List (List Event)
  pub are : spans ≡ before ++ behind
  pub counted : length (flat_map (λ (span : List Event). span) before) ≡ b.count

-- the parts that spans are, none of which is a bracket or an end, by the runs that are left
abbrev pub parts_of : List (List Event) → List Run → List Part
parts_of [] rs = []
parts_of (span ∷ spans) rs = (part_of span rs).0 ∷ parts_of spans (part_of span rs).1

-- the runs that are left behind spans
abbrev pub runs_left : List (List Event) → List Run → List Run
runs_left [] rs = rs
runs_left (span ∷ spans) rs = runs_left spans (part_of span rs).1

-- And behind the last bracket the fold has the spans that were read behind it, with the runs that those before leave, if none of them is a bracket. Of these
-- is the label of a collapsed or a shortcut reference: the walk over items asks whether it is defined (`own_is_defined`), and the fold makes the text of the
-- link
abbrev pub LabelsAreOne : Type 0
LabelsAreOne =
    (defined : List ℕ → Bool) (on : Constructs) (bytes : List ℕ) (seats : List Seat) (runs : List Run) (front rest : List (Found × List Seat)) (b : Bracket) (bs : List Bracket)
    → inline_items on defined bytes seats ≡ front ++ rest → (remembered bytes (nothing_read seats) front).waiting ≡ b ∷ bs
    → let spans = outermost_spans (flat_map (item_events bytes) front) in
    (at : SpansAround spans b) × (list_any is_bracket at.behind ≡ false → (folded runs spans).behind ≡ parts_of at.behind (runs_left at.before runs))

-- So the own label of a bracket, which the walk over items asks for, is that of the spans behind the bracket of which the fold makes the text of a link
abbrev pub OwnLabelsAreAsked : Type 0
OwnLabelsAreAsked =
    (defined : List ℕ → Bool) (on : Constructs) (bytes : List ℕ) (seats : List Seat) (runs : List Run) (front rest : List (Found × List Seat)) (b : Bracket) (bs : List Bracket)
    → inline_items on defined bytes seats ≡ front ++ rest → let m = remembered bytes (nothing_read seats) front in
    m.waiting ≡ b ∷ bs → own_is_defined defined bytes b m ≡ true → let read = outermost_spans (flat_map (item_events bytes) front) in
    (before behind : List (List Event)) × (read ≡ before ++ behind) × ((folded runs read).behind ≡ parts_of behind (runs_left before runs))
    × (is_defined_label defined (bytes_before bytes m.ahead) (flat_map (λ (span : List Event). span) behind) ≡ true)

-- A tail that a bracket may have at an end, by what is remembered before the end and by the bytes behind it: a resource; or a full reference, whose label is
-- defined; or that of a reference by the bracket's own label, which is defined
abbrev pub IsTail : (defined : List ℕ → Bool) → (bytes : List ℕ) → Bracket → Memory → (behind : List ℕ) → (tail : Found) → Type 0
IsTail defined bytes b m behind tail =
    (resource_grammar.front behind ≡ Some tail)
    ⊎ (((n : ℕ) × (label_length behind ≡ Some n) × (is_wanted_at defined bytes m.ahead (label_text n behind) ≡ true) × (tail ≡ full_reference n))
    ⊎ ((own_is_defined defined bytes b m ≡ true) × (tail ≡ own_tail behind)))

-- an item makes something of the last bracket that waits, with such a tail
abbrev pub MakesOfBracket : (defined : List ℕ → Bool) → (bytes : List ℕ) → Memory → Found → Type 0
MakesOfBracket defined bytes m item =
    (b : Bracket) × (bs : List Bracket) × (tail : Found) × (m.waiting ≡ b ∷ bs) × (item ≡ label_end tail) × IsTail defined bytes b m (drop 1 (bytes_of m.ahead)) tail

-- So does each end that makes a link or an image: the label of each reference in a text was asked for, and is defined
abbrev pub EndsAreReferences : Type 0
EndsAreReferences =
    (defined : List ℕ → Bool) (on : Constructs) (bytes : List ℕ) (seats : List Seat) (front : List (Found × List Seat)) (i : Found × List Seat) (rest : List (Found × List Seat))
    → inline_items on defined bytes seats ≡ front ++ i ∷ rest → i.0.mark ≡ makes → MakesOfBracket defined bytes (remembered bytes (nothing_read seats) front) i.0
