-- Documents whose texts are read, too: by any reading that moves with its text, and as inline text and strings are read.
use Rattle.std.specs.Prelude.{◌≡◌, ℕ, ◌<◌, Bool, true, List, ◌++◌, length, map}
use Rattle.std.specs.List.{AllByRecursion}
use Rattle.markdown_base.specs.declared.configuration.Constructs.{Constructs}
use Rattle.markdown_base.specs.declared.configuration.ParseOptions.{ParseOptions}
use Rattle.markdown_base.specs.declared.event.Event.{Event}
use Rattle.mddocument.specs.FlowTexts.{flow_inlines, flow_read, inline_seat_events}
use Rattle.mdinline_constructs.specs.StringItems.{string_seat_events}
use Rattle.mddocument_parts.specs.Moved.{begins_at_rest, begins_line, line_endings, moved_event, moved_seat}
use Rattle.markdown_base.specs.Virtual.{Seat, virtual}

-- a virtual byte stands before so many bytes are over, and so does its end. In bytes that end a line those of texts do: no text has the ending of its last
-- line
abbrev pub StandsBefore : (n : ℕ) → Seat → Type 0
StandsBefore n s = (s.point.index < n) × (s.end.index < n)

-- What virtual bytes of documents are read as, by the bytes of the document: behind others the same, moved, with no link; and before others the
-- same
abbrev pub ReadsMove : (reads : List ℕ → List Seat → List Event) → Type 0
ReadsMove reads = (a b : List ℕ) → begins_line b a ≡ true
    → ((seats : List Seat) → AllByRecursion (StandsBefore (length a)) seats → reads (a ++ b) seats ≡ reads a seats)
    × ((lines events : ℕ) (seats : List Seat) → reads (a ++ b) (map (moved_seat lines (length a)) seats) ≡ map (moved_event lines (length a) events) (reads b seats))

-- Inline text moves so, whatever labels are defined; and so do strings
abbrev pub InlinesMove : Type 0
InlinesMove = (defined : List ℕ → Bool) (options : ParseOptions) → ReadsMove (inline_seat_events defined options)

abbrev pub StringsMove : Type 0
StringsMove = (on : Constructs) → ReadsMove (string_seat_events on)

-- The events of a document with its texts and strings read are those of its parts
abbrev pub ReadEventsOfBoth : Type 0
ReadEventsOfBoth = (texts strings : List ℕ → List Seat → List Event) → ReadsMove texts → ReadsMove strings → (on : Constructs) (t : ℕ) (a b : List ℕ) → begins_at_rest on t a b ≡ true
    → let first = flow_read (texts a) (strings a) on a (virtual t a) in
    flow_read (texts (a ++ b)) (strings (a ++ b)) on (a ++ b) (virtual t (a ++ b)) ≡ first ++ map (moved_event (line_endings a) (length a) (length first)) (flow_read (texts b) (strings b) on b (virtual t b))

-- so it is with inline text and strings in leaf blocks
abbrev pub FlowInlinesOfBoth : Type 0
FlowInlinesOfBoth = (options : ParseOptions) (t : ℕ) (a b : List ℕ) → begins_at_rest options.constructs t a b ≡ true
    → let first = flow_inlines options a (virtual t a) in
    flow_inlines options (a ++ b) (virtual t (a ++ b)) ≡ first ++ map (moved_event (line_endings a) (length a) (length first)) (flow_inlines options b (virtual t b))
