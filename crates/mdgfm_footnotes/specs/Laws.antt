-- Laws of calls of footnotes: what they are, and what they leave as it was.
use Rattle.std.specs.Prelude.{◌≡◌, ◌≤◌, ◌<◌, ⊤, ℕ, zero, suc, ◌+◌, ◌-◌, ◌*◌, true, false, List, [], ◌∷◌, ◌++◌, Bool, cond, drop, length, map, Option, Some, None}
use Rattle.std.specs.List.{AllByRecursion}
use Rattle.markdown_base.specs.declared.configuration.ParseOptions.{ParseOptions}
use Rattle.markdown_base.specs.declared.event.Event.{Event}
use Rattle.markdown_base.specs.declared.event.Link.{Link}
use Rattle.markdown_base.specs.declared.event.Name.{Name}
use Rattle.markdown_base.specs.declared.event.Name.TheVariants.{Data, GfmFootnoteCall, GfmFootnoteCallLabel, GfmFootnoteCallMarker, Label, LabelEnd, LabelMarker}
use Rattle.markdown_base.specs.Events.{IsBalanced, IsInOrder, same_name}
use Rattle.mdblock_leaf_blocks.specs.LineWords.{starts_with}
use Rattle.mdgfm_literals.specs.declared.texts.Literal.{Literal}
use Rattle.mdgfm_literals.specs.Laws.{begins_block, further_event}
use Rattle.mdgfm_literals.specs.Literals.{more_passed}
use Rattle.mdgfm_footnotes.specs.CallEvents.{call_events, call_events_by, labels_in}
use Rattle.mdgfm_footnotes.specs.Calls.{call_at, calls_from, label_size}

-- Without the option nothing changes
abbrev pub OffChangesNothing : Type 0
OffChangesNothing = (options : ParseOptions) (bytes : List ℕ) (events : List Event) → options.constructs.gfm_label_start_footnote ≡ false
    → call_events options bytes events ≡ events

-- the names of a call, and of what is in it and beside it
abbrev pub call_names : List Name
call_names = GfmFootnoteCall ∷ GfmFootnoteCallLabel ∷ GfmFootnoteCallMarker ∷ Label ∷ LabelEnd ∷ LabelMarker ∷ Data ∷ []

-- Without a footnote definition nothing changes
abbrev pub NoDefinitionChangesNothing : Type 0
NoDefinitionChangesNothing = (options : ParseOptions) (bytes : List ℕ) (events : List Event) → labels_in bytes events ≡ [] → call_events options bytes events ≡ events

-- Balanced events stay balanced
abbrev pub BalanceIsKept : Type 0
BalanceIsKept = (options : ParseOptions) (bytes : List ℕ) (events : List Event) → IsBalanced events → IsBalanced (call_events options bytes events)

-- Events stay in order of place
abbrev pub OrderIsKept : Type 0
OrderIsKept = (options : ParseOptions) (bytes : List ℕ) (events : List Event) → IsInOrder bytes events → IsInOrder bytes (call_events options bytes events)

-- Events within the bytes, in order, come to be three times as many at most, and five for each byte
abbrev pub EventsStayFew : Type 0
EventsStayFew =
    (options : ParseOptions) (bytes : List ℕ) (events : List Event) → IsInOrder bytes events → AllByRecursion (λ e. e.point.index ≤ length bytes) events
    → length (call_events options bytes events) ≤ 3 * length events + 5 * length bytes

-- A test of names that all events pass, and these names, is passed by all events with calls: there are no other new names
abbrev pub NamesAreKept : Type 0
NamesAreKept = (test : Name → Bool) (options : ParseOptions) (bytes : List ℕ) (events : List Event)
    → AllByRecursion (λ n. test n ≡ true) call_names → AllByRecursion (λ e. test e.name ≡ true) events
    → AllByRecursion (λ e. test e.name ≡ true) (call_events options bytes events)

-- no event enters a call yet, or exits one
abbrev pub HaveNoCalls : List Event → Type 0
HaveNoCalls events = AllByRecursion (λ e. same_name e.name GfmFootnoteCall ≡ false) events

-- Behind other bytes calls are the same, further on
abbrev pub CallsMove : Type 0
CallsMove =
    (noted : (label : List ℕ) → Bool) (options : ParseOptions) (lines : ℕ) (before bytes : List ℕ) (links : Option Link → Option Link) (events : List Event) → links None ≡ None
    → let further = map (further_event links lines (length before)) in
    call_events_by noted options (before ++ bytes) (further events) ≡ further (call_events_by noted options bytes events)

-- Bytes behind those of the events do nothing
abbrev pub BytesBehindDoNothing : Type 0
BytesBehindDoNothing =
    (noted : (label : List ℕ) → Bool) (options : ParseOptions) (bytes behind : List ℕ) (events : List Event) → AllByRecursion (λ e. e.point.index ≤ length bytes) events
    → call_events_by noted options (bytes ++ behind) events ≡ call_events_by noted options bytes events

-- So calls of a document are those of its parts, if the same footnotes are noted for both: of balanced events without calls, and of events behind them that begin
-- with no text
abbrev pub CallsOfParts : Type 0
CallsOfParts =
    (noted : (label : List ℕ) → Bool) (options : ParseOptions) (lines : ℕ) (before bytes : List ℕ) (links : Option Link → Option Link) (xs ys : List Event)
    → let further = map (further_event links lines (length before)) in
    let called = call_events_by noted options in
    links None ≡ None → IsBalanced xs → HaveNoCalls xs → AllByRecursion (λ e. e.point.index ≤ length before) xs → begins_block ys ≡ true
    → IsInOrder (before ++ bytes) (xs ++ further ys) → called (before ++ bytes) (xs ++ further ys) ≡ called before xs ++ further (called bytes ys)

-- Each call of a text is one at its place, and begins where the one before it ended or behind that. So its label is defined
abbrev pub AreCalls : (defined : (label : List ℕ) → Bool) → (start : ℕ) → (text : List ℕ) → (end : ℕ) → List Literal → Type 0
AreCalls defined start text end [] = ⊤
AreCalls defined start text end (l ∷ ls) =
    (end ≤ l.from) × (l.from < l.to) × (call_at defined (drop (l.from - start) text) ≡ Some (l.to - l.from)) × AreCalls defined start text l.to ls

abbrev pub CallsAreCalls : Type 0
CallsAreCalls = (defined : (label : List ℕ) → Bool) (start : ℕ) (text : List ℕ) → AreCalls defined start text start (calls_from defined 0 start text)

-- how many bytes are read for a label at the front of a text, if `[^` comes there
abbrev pub label_read : List ℕ → ℕ
label_read text = cond (starts_with (91 ∷ 94 ∷ []) text) (label_size 0 (drop 2 text)) 0

-- and at all places of a text where a call is looked for, as calls are found
abbrev pub read_from : (defined : (label : List ℕ) → Bool) → (skip : ℕ) → List ℕ → ℕ
read_from defined skip [] = 0
read_from defined (suc skip) (b ∷ bs) = read_from defined skip bs
read_from defined zero (b ∷ bs) = label_read (b ∷ bs) + elim (call_at defined (b ∷ bs)) [ Some n ↦ read_from defined (n - 1) bs | None ↦ read_from defined (more_passed (b ∷ bs)) bs ]

-- Each byte is read once for a label: there is no text of which many labels read the same bytes
abbrev pub LabelsAreReadOnce : Type 0
LabelsAreReadOnce = (defined : (label : List ℕ) → Bool) (text : List ℕ) → read_from defined 0 text ≤ length text
