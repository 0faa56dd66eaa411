-- What is promised of the link reference definitions of documents, by events (CommonMark 0.31, 4.7).
use Rattle.std.specs.Prelude.{◌≡◌, ℕ, ◌+◌, ◌-◌, Bool, true, cond, List, [], ◌∷◌, ◌++◌, drop, is_some, length, map, take, Some}
use Rattle.std.specs.List.{flat_map}
use Rattle.markdown_base.specs.declared.event.Content.TheVariants as content
use Rattle.markdown_base.specs.declared.event.Event.{Event}
use Rattle.markdown_base.specs.declared.event.Name.TheVariants as name
use Rattle.markdown_base.specs.Virtual.{Seat, virtual}
use Rattle.markdown_tokenizer.specs.Text.{Given, IsDocument, IsText, Text}
use Rattle.markdown_children.specs.Chains.{begins}
use Rattle.mdblock_leaf_blocks.specs.LeafEvents.{Mark}
use Rattle.mdblock_definitions.specs.Blocks.{labels_of}
use Rattle.mdblock_definitions.specs.Definitions.{Place, before_prefixes, line_marks, parts_marks, places_in, string_lines}
use Rattle.mdblock_definitions.specs.Sections.{Section, defined, lines, table}
use Rattle.mdblock_definitions.specs.Skeleton.{all_rows, sections_in_seats}
use Rattle.mdinline_emphasis.specs.Runs.{runs_in}
use Rattle.mdinline_labels.specs.declared.definitions.Definition.{Definition}
use Rattle.mdinline_labels.specs.Labels.{normalised}
use Rattle.mdinline_link_strings.specs.Strings.{with_strings, with_strings_from}
use Rattle.mdinline_link_tails.specs.Resource.{string_events}
use Rattle.mdinline_links.specs.Linked.{emphasised_parts, outermost_spans}
use Rattle.mdinline_machine.specs.Brackets.{Bracket, nothing_read, own_is_defined}
use Rattle.mdinline_machine.specs.InlineEvents.{inline_events, inline_items, read_events}
use Rattle.mdinline_text_machine.specs.ChainTexts.{chain_text}
use Rattle.mdinline_text_machine.specs.Construct.{Found}
use Rattle.mdinline_text_machine.specs.TextEvents.{item_events}
use Rattle.mdblock_text_lines.specs.DocumentBlocks.{document_blocks}
use Rattle.mddocument.specs.DocumentEvents.{document_events, is_defined_in}
use Rattle.mddocument_link_targets.specs.declared.targets.Target.TheVariants as target
use Rattle.mddocument_link_targets.specs.Spans.{enters, first_in, inside}
use Rattle.mddocument_link_targets.specs.Strings.{as_written}
use Rattle.mddocument_link_targets.specs.Targets.{defined_label, definition_of, target_of}
use Rattle.mddocument_rules.specs.BracketLaws.{folded, remembered}

-- what is in the definitions among events, one after another
abbrev pub definitions_in : List Event → List (List Event)
definitions_in [] = []
definitions_in (e ∷ es) = cond (enters name.Definition e) (inside es ∷ definitions_in es) (definitions_in es)

-- the events of the parts of a section's definitions: each definition begins in the line behind the one before
abbrev pub parts_of_definitions : (bytes : List ℕ) → List Definition → List Place → List (List Event)
parts_of_definitions bytes [] places = []
parts_of_definitions bytes (d ∷ ds) places = map (λ (m : Mark). m.0) (parts_marks bytes d (take d.size places)) ∷ parts_of_definitions bytes ds (drop (d.size + 1) places)

abbrev pub parts_of_section : (bytes : List ℕ) → Section → List (List Event)
parts_of_section bytes s = elim s.inside [
  | lines is_behind ↦ []
  | defined ds ↦ parts_of_definitions bytes ds (places_in bytes (all_rows s.part))
  | table ↦ []
]

-- The definitions of a document are those of its sections, in their order: in each is its label, its destination and its title, with their strings read
abbrev pub DefinitionsAreOfSections : Type 0
DefinitionsAreOfSections =
    (g : Given) → IsDocument g → let on = g.options.constructs in
    definitions_in (document_events g) ≡ map (with_strings on g.tab g.bytes) (flat_map (parts_of_section g.bytes) (sections_in_seats on (virtual g.tab g.bytes)))

-- the events between the brackets of labels: of each line its data, and between two lines the line ending and the prefixes of the next,
-- if that is not an empty last one
abbrev pub labels_of_definitions : (bytes : List ℕ) → List Definition → List Place → List (List Event)
labels_of_definitions bytes [] places = []
labels_of_definitions bytes (d ∷ ds) places =
    map (λ (m : Mark). m.0) (line_marks bytes true (string_lines (before_prefixes (take (d.label.size - 2) (drop (d.label.from + 1) places))))) ∷ labels_of_definitions bytes ds (drop (d.size + 1) places)

abbrev pub label_events_of_section : (bytes : List ℕ) → Section → List (List Event)
label_events_of_section bytes s = elim s.inside [
  | lines is_behind ↦ []
  | defined ds ↦ labels_of_definitions bytes ds (places_in bytes (all_rows s.part))
  | table ↦ []
]

-- The label of each of them is what stands between the brackets of a definition of the sections, with its data read as strings
abbrev pub LabelsAreOfSections : Type 0
LabelsAreOfSections =
    (g : Given) → IsDocument g → let on = g.options.constructs in
    map (first_in name.DefinitionLabelString) (definitions_in (document_events g))
    ≡ map (λ label. Some (with_strings_from on g.tab g.bytes true label)) (flat_map (label_events_of_section g.bytes) (sections_in_seats on (virtual g.tab g.bytes)))

-- So a document has one definition for each label that its sections define
abbrev pub DefinitionsHaveLabels : Type 0
DefinitionsHaveLabels = (g : Given) → IsDocument g → length (definitions_in (document_events g)) ≡ length (labels_of g)

-- The label of each of them, as it is written among the events, is the one that its lines define
abbrev pub LabelsAreWritten : Type 0
LabelsAreWritten = (g : Given) → IsDocument g → map (defined_label g.bytes) (definitions_in (document_events g)) ≡ labels_of g

-- So a label is defined in a document exactly if a definition among its events has it: then `definition_of` is the first of these
abbrev pub DefinedIsDefined : Type 0
DefinedIsDefined = (g : Given) (label : List ℕ) → IsDocument g → is_defined_in g label ≡ is_some (definition_of g.bytes (document_events g) (normalised label))

-- ---- references in inline text, whichever labels are defined
-- Where a bracket's own label is asked for and is defined, the text that a link is made of is that label, as it is written: with the delimiter runs as they stand
abbrev pub OwnLabelsAreWritten : Type 0
OwnLabelsAreWritten =
    (defined : List ℕ → Bool) (g : Given) (text : Text) (front rest : List (Found × List Seat)) (b : Bracket) (bs : List Bracket) → IsText g text
    → inline_items g.options.constructs defined g.bytes text.seats ≡ front ++ rest → let m = remembered g.bytes (nothing_read text.seats) front in
    m.waiting ≡ b ∷ bs → own_is_defined defined g.bytes b m ≡ true
    → let z = folded (runs_in g.options.gfm_strikethrough_single_tilde g.bytes (read_events defined g text)) (outermost_spans (flat_map (item_events g.bytes) front)) in defined (as_written g.bytes (emphasised_parts z.behind)) ≡ true

-- "A shortcut reference link consists of a link label that matches a link reference definition elsewhere in the document" (6.3), as do the labels of the other
-- references: each link and each image without a resource leads to a label that is defined, in the form by which labels are compared
abbrev pub ReferencesOfTextsAreDefined : Type 0
ReferencesOfTextsAreDefined =
    (defined : List ℕ → Bool) (g : Given) (text : Text) (at : ℕ) (label : List ℕ) → IsText g text → target_of g.bytes (inline_events defined g text) at ≡ Some (target.Label label)
    → (own : List ℕ) × (label ≡ normalised own) × (defined own ≡ true)

-- The label of a full reference, which is some of a text, is written the same with its strings read: escapes and character references stay as they stand
abbrev pub ReferenceLabelsStay : Type 0
ReferenceLabelsStay =
    (g : Given) (text : Text) (before seats after : List Seat) → IsText g text → text.seats ≡ before ++ (seats ++ after)
    → as_written g.bytes (with_strings_from g.options.constructs g.tab g.bytes true (string_events g.bytes seats)) ≡ as_written g.bytes (string_events g.bytes seats)

-- So each reference in the text of a paragraph or a heading of a document has a definition among the document's events: the first one with its label is what
-- `definition_of` gives
abbrev pub ReferencesOfChainsAreDefined : Type 0
ReferencesOfChainsAreDefined =
    (g : Given) (c at : ℕ) (label : List ℕ) → IsDocument g → begins (Some content.Text) (document_blocks g) c ≡ true
    → target_of g.bytes (inline_events (is_defined_in g) g (chain_text g (document_blocks g) c)) at ≡ Some (target.Label label) → is_some (definition_of g.bytes (document_events g) label) ≡ true

-- "A link label that matches a link reference definition elsewhere in the document" (CommonMark 0.31, 6.3): each reference among the events of a
-- document, a link or an image without a resource, has a label that is defined. The first definition among the events with this label is what
-- `definition_of` gives
abbrev pub ReferencesAreDefined : Type 0
ReferencesAreDefined =
    (g : Given) (at : ℕ) (label : List ℕ) → IsDocument g → target_of g.bytes (document_events g) at ≡ Some (target.Label label) → is_some (definition_of g.bytes (document_events g) label) ≡ true
