-- The events of a text with links, images and emphasis in place of its brackets and delimiter runs (CommonMark 0.31, 6.3 "Links", 6.4 "Images").
-- The definition has no states: it is one fold over the outermost spans.
--
-- It takes brackets as the appendix "A parsing strategy" does. A bracket (LabelLink, LabelImage) waits. A `]` that makes a link or an image is a
-- LabelEnd; it is made of the last bracket that waits, with the tail behind it, if there is one (Resource, Reference). Another `]` that a bracket
-- waits for is a LabelMarker of its own; it takes the last bracket away. Brackets that are taken away, or wait to the end, are data. The delimiter
-- runs in a link or an image pair among themselves, and with no run outside ("process emphasis" with the bracket as its bottom).
use Rattle.std.specs.Prelude.{ℕ, zero, suc, ◌==◌, ◌&&◌, ◌||◌, Bool, false, cond, List, [], ◌∷◌, ◌++◌, length}
use Rattle.markdown_base.specs.declared.event.Event.{Event}
use Rattle.markdown_base.specs.declared.event.Kind.TheVariants.{Enter, Exit}
use Rattle.markdown_base.specs.declared.event.Name.{Name}
use Rattle.markdown_base.specs.declared.event.Name.TheVariants.{Data, Image, Label, LabelEnd, LabelImage, LabelLink, LabelMarker, LabelText, Link, Reference, Resource}
use Rattle.markdown_base.specs.declared.event.Point.{Point}
use Rattle.markdown_base.specs.Events.{is_enter, same_name}
use Rattle.mdinline_emphasis.specs.Emphasis.{Run, emphasised, unlinked_event}
use Rattle.mdinline_emphasis.specs.Runs.{depth_after, is_sequence, runs_in}

-- ---- outermost spans

-- the first span of a list, by how many are open, and what is behind it
abbrev pub span_at : (depth : ℕ) → List Event → List Event × List Event
span_at depth [] = ([], [])
span_at depth (e ∷ es) =
    let d = depth_after e.kind depth in
    cond (d == 0) (e ∷ [], es) (let (front, rest) = span_at d es in (e ∷ front, rest))

-- the outermost spans, so many at most
abbrev pub spans_in : (bound : ℕ) → List Event → List (List Event)
spans_in zero es = []
spans_in (suc bound) [] = []
spans_in (suc bound) (e ∷ es) = let (span, rest) = span_at 0 (e ∷ es) in span ∷ spans_in bound rest

abbrev pub outermost_spans : List Event → List (List Event)
outermost_spans es = spans_in (length es) es

-- a span has this name
abbrev pub is_named : Name → List Event → Bool
is_named name [] = false
is_named name (e ∷ es) = is_enter e.kind && same_name e.name name

-- ---- what is behind a bracket

-- a part of it: a delimiter run, or balanced events
pub data Part : Type 0 where
  run : Run → Part
  events : List Event → Part

abbrev pub runs_of_parts : List Part → List Run
runs_of_parts [] = []
runs_of_parts (run r ∷ ps) = r ∷ runs_of_parts ps
runs_of_parts (events es ∷ ps) = runs_of_parts ps

-- the events between the run of an index and the run before it, or the front
abbrev pub text_before : (since : List Event) → List Part → (index : ℕ) → List Event
text_before since [] index = []
text_before since (run r ∷ ps) index = cond (r.index == index) since (text_before [] ps index)
text_before since (events es ∷ ps) index = text_before (since ++ es) ps index

-- the events behind the last run
abbrev pub text_behind : (since : List Event) → List Part → List Event
text_behind since [] = since
text_behind since (run r ∷ ps) = text_behind [] ps
text_behind since (events es ∷ ps) = text_behind (since ++ es) ps

-- The events of parts: the runs among them pair with each other, and with no others
abbrev pub emphasised_parts : List Part → List Event
emphasised_parts ps = emphasised (text_before [] ps) (runs_of_parts ps) (text_behind [] ps)

-- ---- links and images

-- where events end, behind an event at a place
abbrev pub last_place : Point → List Event → Point
last_place p [] = p
last_place p (e ∷ es) = last_place e.point es

-- a span around events, with the places of its ends
abbrev pub spanning : Name → (start end : Point) → List Event → List Event
spanning name start end es = unlinked_event Enter name start ∷ (es ++ unlinked_event Exit name end ∷ [])

-- a span around events, from where they begin to where they end
abbrev pub around : Name → List Event → List Event
around name [] = []
around name (e ∷ es) = spanning name e.point (last_place e.point es) (e ∷ es)

-- data in place of a span
abbrev pub as_data : List Event → List Event
as_data [] = []
as_data (e ∷ es) = unlinked_event Enter Data e.point ∷ unlinked_event Exit Data (last_place e.point es) ∷ []

-- The text of a link or an image, between its bracket and its end, with emphasis: from where the bracket ends to where the text does, so that no
-- prefix of an empty last line is in it. Where nothing is between them, there is none
abbrev pub label_text : (opener close : List Event) → (between : List Part) → List Event
label_text (e ∷ es) (f ∷ fs) (p ∷ ps) =
    let start = last_place e.point es in
    let text = emphasised_parts (p ∷ ps) in
    spanning LabelText start (last_place start text) text
label_text opener close between = []

-- a link, or an image: its label, which is the bracket, the text and the end; and its tail
abbrev pub made : (opener : List Event) → (between : List Part) → (close tail : List Event) → List Event
made opener between close tail =
    around (cond (is_named LabelImage opener) Image Link) (around Label (opener ++ (label_text opener close between ++ close)) ++ tail)

-- A bracket that waits: its span, and the parts between it and the bracket that waits before it
pub record Waiting : Type 0 where
  pub opener : List Event
  pub before : List Part

-- the parts of a text in which no bracket waits any more: those that do are data
abbrev pub all_parts : List Waiting → List Part → List Part
all_parts [] behind = behind
all_parts (w ∷ ws) behind = all_parts ws (w.before ++ events (as_data w.opener) ∷ behind)

abbrev pub is_bracket : List Event → Bool
is_bracket span = is_named LabelLink span || is_named LabelImage span

-- a tail: what a link or an image has behind its label
abbrev pub is_tail : List Event → Bool
is_tail span = is_named Resource span || is_named Reference span

-- a span is a delimiter run: an attention sequence with nothing in it
abbrev pub is_run : List Event → Bool
is_run (e ∷ f ∷ []) = is_sequence e f
is_run span = false

-- the part that a span is, by the runs that are left
abbrev pub part_of : List Event → List Run → Part × List Run
part_of span [] = (events span, [])
part_of span (r ∷ rs) = cond (is_run span) (run r, rs) (events span, r ∷ rs)

-- What a fold over spans has so far: the brackets that wait, the last one first; the parts behind the last one; and the runs that are
-- left
pub record SoFar : Type 0 where
  pub waiting : List Waiting
  pub behind : List Part
  pub runs : List Run

abbrev pub opened : List Event → SoFar → SoFar
opened span z = record z { waiting = record { opener = span; before = z.behind } ∷ z.waiting; behind = [] }

-- a `]` that makes nothing takes the last bracket away
abbrev pub failed : List Event → List Waiting → SoFar → SoFar
failed span [] z = record z { behind = z.behind ++ events (as_data span) ∷ [] }
failed span (w ∷ ws) z = record z { waiting = ws; behind = w.before ++ events (as_data w.opener) ∷ (z.behind ++ events (as_data span) ∷ []) }

-- one that makes a link or an image, with its tail
abbrev pub ended : (span tail : List Event) → List Waiting → SoFar → SoFar
ended span tail [] z = record z { behind = z.behind ++ events (span ++ tail) ∷ [] }
ended span tail (w ∷ ws) z = record z { waiting = ws; behind = w.before ++ events (made w.opener z.behind span tail) ∷ [] }

abbrev pub added : List Event → SoFar → SoFar
added span z = let (part, rs) = part_of span z.runs in record z { behind = z.behind ++ part ∷ []; runs = rs }

-- a span that is no end
abbrev pub taken : List Event → SoFar → SoFar
taken span z = cond (is_bracket span) (opened span z) (cond (is_named LabelMarker span) (failed span z.waiting z) (added span z))

-- spans from the front
abbrev pub linked_from : SoFar → List (List Event) → SoFar
linked_from z [] = z
linked_from z (span ∷ []) = cond (is_named LabelEnd span) (ended span [] z.waiting z) (taken span z)
linked_from z (span ∷ next ∷ spans) =
    cond (is_named LabelEnd span)
    (cond (is_tail next) (linked_from (ended span next z.waiting z) spans) (linked_from (ended span [] z.waiting z) (next ∷ spans)))
    (linked_from (taken span z) (next ∷ spans))

-- the parts of a text, whose runs are these, in which no bracket waits any more
abbrev pub linked_parts : List Run → List Event → List Part
linked_parts runs es = let z = linked_from (record { waiting = []; behind = []; runs = runs }) (outermost_spans es) in all_parts z.waiting z.behind

-- The events of a text of a document with links, images and emphasis in place of brackets and runs
abbrev pub with_links : (one_tilde : Bool) → (bytes : List ℕ) → List Event → List Event
with_links one_tilde bytes es = emphasised_parts (linked_parts (runs_in one_tilde bytes es) es)
