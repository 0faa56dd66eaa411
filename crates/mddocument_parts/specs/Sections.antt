-- A document as sections, each of which is read by itself.
use Rattle.std.specs.Prelude.{◌≡◌, ℕ, ◌≤◌, ◌&&◌, nat_le, Bool, true, List, [], ◌∷◌, ◌++◌, length, map}
use Rattle.std.specs.List.{flat_map}
use Rattle.markdown_base.specs.declared.configuration.Constructs.{Constructs}
use Rattle.markdown_base.specs.declared.configuration.ParseOptions.{ParseOptions}
use Rattle.markdown_base.specs.declared.event.Event.{Event}
use Rattle.mddocument.specs.FlowTexts.{flow_inlines}
use Rattle.mdblock_leaf_blocks.specs.LeafEvents.{flow_events}
use Rattle.mddocument_parts.specs.Moved.{begins_at_rest, begins_line, line_endings, moved_event}
use Rattle.markdown_base.specs.Virtual.{virtual}

-- What comes behind bytes that end a line does not matter for whether they begin at a rest
abbrev pub FirstLineTells : Type 0
FirstLineTells = (on : Constructs) (t : ℕ) (a b c : List ℕ) → 1 ≤ length b → begins_line c b ≡ true → begins_line b a ≡ true → begins_at_rest on t a (b ++ c) ≡ begins_at_rest on t a b

-- Behind a rest what comes before it is forgotten: later bytes begin at a rest, or not, whatever it was
abbrev pub RestsOfBoth : Type 0
RestsOfBoth = (on : Constructs) (t : ℕ) (a b c : List ℕ) → begins_at_rest on t a b ≡ true → 1 ≤ length b → begins_line c b ≡ true → begins_at_rest on t (a ++ b) c ≡ begins_at_rest on t b c

-- Sections, by where a rest is: none is empty, and each begins at a rest behind the one before it, which is looked at alone
abbrev pub are_sections_by : (rest : (a b : List ℕ) → Bool) → List (List ℕ) → Bool
are_sections_by rest [] = true
are_sections_by rest (s ∷ []) = nat_le 1 (length s)
are_sections_by rest (s ∷ next ∷ more) = nat_le 1 (length s) && (rest s next && are_sections_by rest (next ∷ more))

-- by rests of leaf blocks
abbrev pub are_sections : Constructs → (t : ℕ) → List (List ℕ) → Bool
are_sections on t = are_sections_by (begins_at_rest on t)

abbrev pub document_of : List (List ℕ) → List ℕ
document_of sections = flat_map (λ s. s) sections

-- the events of sections, each read by itself, one behind the other; `read` are the events of bytes that are a document
abbrev pub events_of_sections : (read : List ℕ → List Event) → List (List ℕ) → List Event
events_of_sections read [] = []
events_of_sections read (s ∷ more) = let first = read s in first ++ map (moved_event (line_endings s) (length s) (length first)) (events_of_sections read more)

-- The events of leaf blocks of sections are those of the document
abbrev pub SectionsGiveEvents : Type 0
SectionsGiveEvents = (on : Constructs) (t : ℕ) (sections : List (List ℕ)) → are_sections on t sections ≡ true
    → let read = λ (bytes : List ℕ). flow_events on bytes (virtual t bytes) in read (document_of sections) ≡ events_of_sections read sections

-- So are they with inline text and strings
abbrev pub SectionsGiveInlines : Type 0
SectionsGiveInlines = (options : ParseOptions) (t : ℕ) (sections : List (List ℕ)) → are_sections options.constructs t sections ≡ true
    → let read = λ (bytes : List ℕ). flow_inlines options bytes (virtual t bytes) in read (document_of sections) ≡ events_of_sections read sections
