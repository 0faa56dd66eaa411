-- Calls of some texts, on each side of each rule, and events with calls.
use Rattle.std.specs.List.{list_any}
use Rattle.std.specs.Prelude.{ℕ, ◌+◌, ◌-◌, Bool, List, [], ◌∷◌, ◌++◌, bytes_eq, codes, map}
use Rattle.markdown_base.specs.declared.event.Event.{Event}
use Rattle.markdown_base.specs.declared.event.Kind.TheVariants.{Enter, Exit}
use Rattle.markdown_base.specs.declared.event.Name.{Name}
use Rattle.markdown_base.specs.declared.event.Name.TheVariants.{Data, GfmFootnoteCall, GfmFootnoteCallLabel, GfmFootnoteCallMarker, GfmFootnoteDefinitionLabelString, GfmFootnoteDefinitionPrefix, Label, LabelEnd, LabelMarker, LabelText, Link}
use Rattle.markdown_base.specs.Virtual.{point}
use Rattle.mdgfm_events.specs.Places.{event}
use Rattle.mdgfm_footnotes.specs.CallEvents.{labels_in, with_calls}
use Rattle.mdgfm_footnotes.specs.Calls.{calls_from}

-- a label is one of `a`, `b\*c` and `d[`, byte by byte
abbrev pub is_known : (label : List ℕ) → Bool
is_known label = list_any (bytes_eq label) (codes "a" ∷ codes "b\\*c" ∷ codes "d[" ∷ [])

-- a text where these are defined, and from where to where its calls are
abbrev pub calls_in : List ℕ → List (ℕ × ℕ)
calls_in text = map (λ l. (l.from, l.to)) (calls_from is_known 0 0 text)

abbrev pub texts : List (List ℕ × List (ℕ × ℕ))
texts =
    (codes "x[^a]y[^a]", (1, 5) ∷ (6, 10) ∷ [])
    -- a label that is not defined, none, and one that does not end
    ∷ (codes "[^x]", [])
    ∷ (codes "[^]", [])
    ∷ (codes "[^a", [])
    ∷ (codes "[a]", [])
    -- white space; a bracket that opens ends what may be a call, and another one may begin there
    ∷ (codes "[^a ]", [])
    ∷ (codes "[^d[]", [])
    ∷ (codes "[^x[^a]]", (3, 7) ∷ [])
    -- escapes, in a label and of its brackets
    ∷ (codes "[^b\\*c]", (0, 7) ∷ [])
    ∷ (codes "\\[^a]", [])
    ∷ (codes "[^a\\]", [])
    ∷ []

abbrev pub calls_of_texts : List (List (ℕ × ℕ))
calls_of_texts = map (λ t. calls_in t.0) texts

abbrev pub calls_told : List (List (ℕ × ℕ))
calls_told = map (λ t. t.1) texts

-- ---- events, in one line

abbrev pub leaf : Name → (from to : ℕ) → List Event
leaf name i j = event Enter name (point 1 (i + 1) i 0) ∷ event Exit name (point 1 (j + 1) j 0) ∷ []

abbrev pub span : Name → (from to : ℕ) → List Event → List Event
span name i j es = event Enter name (point 1 (i + 1) i 0) ∷ (es ++ event Exit name (point 1 (j + 1) j 0) ∷ [])

-- the start of a footnote definition `[^a]:`, and what is behind it
abbrev pub note : List Event → List Event
note es = span GfmFootnoteDefinitionPrefix 0 5 (span GfmFootnoteDefinitionLabelString 2 3 (leaf Data 2 3)) ++ es

abbrev pub call : (from to : ℕ) → List Event
call i j =
    span GfmFootnoteCall i j (span Label i j (span GfmFootnoteCallLabel i (i + 2) (leaf LabelMarker i (i + 1) ++ leaf GfmFootnoteCallMarker (i + 1) (i + 2))
    ++ (leaf Data (i + 2) (j - 1) ++ span LabelEnd (j - 1) j (leaf LabelMarker (j - 1) j))))

-- lines, their events, and their events with calls
abbrev pub Lines : Type 0
Lines = List (List ℕ × List Event × List Event)

-- a line without a call
abbrev pub none : List ℕ → List Event → List ℕ × List Event × List Event
none bytes es = (bytes, es, es)

abbrev pub lines : Lines
lines =
    (codes "[^a]:x[^a]y", note (leaf Data 5 11), note (leaf Data 5 6 ++ (call 6 10 ++ leaf Data 10 11)))
    -- in data that is in parts; one behind the other; one that is there already
    ∷ (codes "[^a]:x[^a]y", note (leaf Data 5 6 ++ (leaf Data 6 7 ++ (leaf Data 7 9 ++ leaf Data 9 11))), note (leaf Data 5 6 ++ (call 6 10 ++ leaf Data 10 11)))
    ∷ (codes "[^a]:[^a][^a]", note (leaf Data 5 13), note (call 5 9 ++ call 9 13))
    ∷ (codes "[^a]:[^a][^a]", note (leaf GfmFootnoteCall 5 9 ++ leaf Data 9 13), note (leaf GfmFootnoteCall 5 9 ++ call 9 13))
    -- another label, no definition, and in a link
    ∷ none (codes "[^a]:[^b]") (note (leaf Data 5 9))
    ∷ none (codes "[^a]") (leaf Data 0 4)
    ∷ none (codes "[^a]:[[^a]](b)") (note (span Link 5 14 (span LabelText 6 10 (leaf Data 6 10))))
    ∷ []

-- labels are compared byte by byte here
abbrev pub lines_with : List (List Event)
lines_with = map (λ l. with_calls (λ label. list_any (bytes_eq label) (labels_in l.0 l.1)) 4 l.0 l.1) lines

abbrev pub lines_told : List (List Event)
lines_told = map (λ l. l.2) lines
