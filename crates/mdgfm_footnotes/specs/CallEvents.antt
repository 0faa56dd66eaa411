-- Events with calls of footnotes in place of the data that they cover.
use Rattle.std.specs.Prelude.{ℕ, ◌+◌, ◌-◌, ◌==◌, ◌&&◌, not, Bool, false, cond, List, [], ◌∷◌, ◌++◌, drop, slice_range}
use Rattle.std.specs.List.{list_any}
use Rattle.markdown_base.specs.declared.configuration.ParseOptions.{ParseOptions}
use Rattle.markdown_base.specs.declared.event.Event.{Event}
use Rattle.markdown_base.specs.declared.event.Kind.TheVariants.{Enter, Exit}
use Rattle.markdown_base.specs.declared.event.Name.{Name}
use Rattle.markdown_base.specs.declared.event.Name.TheVariants.{Data, GfmFootnoteCall, GfmFootnoteCallLabel, GfmFootnoteCallMarker, GfmFootnoteDefinitionLabelString, Label, LabelEnd, LabelMarker}
use Rattle.markdown_base.specs.declared.event.Point.{Point}
use Rattle.markdown_base.specs.Events.{is_enter, same_name}
use Rattle.markdown_base.specs.Virtual.{point}
use Rattle.mdinline_labels.specs.Defined.{is_same}
use Rattle.mdgfm_events.specs.Places.{event, leaf, place_at}
use Rattle.mdgfm_events.specs.Spans.{span_end}
use Rattle.mdgfm_literals.specs.declared.texts.Literal.{Literal}
use Rattle.mdgfm_literals.specs.LiteralEvents.{events_with}
use Rattle.mdgfm_footnotes.specs.Calls.{calls_of}

-- an event enters a span of this name
abbrev pub enters : Name → Event → Bool
enters n e = is_enter e.kind && same_name e.name n

-- the labels of the footnote definitions among events, as they are written
abbrev pub labels_in : List ℕ → List Event → List (List ℕ)
labels_in bytes [] = []
labels_in bytes (e ∷ es) =
    let label = slice_range bytes e.point.index (span_end e.point 0 es).index in
    cond (enters GfmFootnoteDefinitionLabelString e) (label ∷ labels_in bytes es) (labels_in bytes es)

-- a label is the same as one of these; labels are compared as those of links
abbrev pub is_one_of : List (List ℕ) → (label : List ℕ) → Bool
is_one_of labels label = list_any (λ known. is_same label known) labels

-- What is in a call between two places: the start of its label, `[^`; the label; and the bracket that ends it
abbrev pub inside_call : (tab : ℕ) → List ℕ → (from to : Point) → List Event
inside_call tab bytes from to =
    let caret = place_at tab bytes from (from.index + 1) in
    let label = place_at tab bytes caret (from.index + 2) in
    let end = place_at tab bytes label (to.index - 1) in
    event Enter Label from ∷ event Enter GfmFootnoteCallLabel from
    ∷ (leaf LabelMarker from caret ++ (leaf GfmFootnoteCallMarker caret label
    ++ (event Exit GfmFootnoteCallLabel label ∷ (leaf Data label end
    ++ (event Enter LabelEnd end ∷ (leaf LabelMarker end to ++ (event Exit LabelEnd to ∷ event Exit Label to ∷ [])))))))

-- an event and the next one are the enter and the exit of the first of these calls: nothing is in it yet
abbrev pub is_bare : List Literal → Event → List Event → Bool
is_bare [] e es = false
is_bare (l ∷ ls) e [] = false
is_bare (l ∷ ls) e (f ∷ es) = (enters GfmFootnoteCall e && not (is_enter f.kind)) && ((e.point.index == l.from) && (f.point.index == l.to))

-- events with what is in these calls, which come one behind the other
abbrev pub with_insides : (tab : ℕ) → List ℕ → List Literal → List Event → List Event
with_insides tab bytes calls [] = []
with_insides tab bytes calls (e ∷ es) =
    let inside = inside_call tab bytes e.point (span_end e.point 0 es) in
    cond (is_bare calls e es) (e ∷ (inside ++ with_insides tab bytes (drop 1 calls) es)) (e ∷ with_insides tab bytes calls es)

-- events with calls of these labels
abbrev pub with_calls : (defined : (label : List ℕ) → Bool) → (tab : ℕ) → List ℕ → List Event → List Event
with_calls defined tab bytes events =
    let calls = calls_of defined bytes 0 0 events in with_insides tab bytes calls (events_with tab bytes 0 0 (point 1 1 0 0) calls events)

-- The events with calls, if they are on, of the labels that are noted: of footnotes that are defined
abbrev pub call_events_by : (noted : (label : List ℕ) → Bool) → ParseOptions → List ℕ → List Event → List Event
call_events_by noted options bytes events = cond options.constructs.gfm_label_start_footnote (with_calls noted options.tab_size bytes events) events

-- of the labels of their own footnote definitions
abbrev pub call_events : ParseOptions → List ℕ → List Event → List Event
call_events options bytes events = call_events_by (is_one_of (labels_in bytes events)) options bytes events
