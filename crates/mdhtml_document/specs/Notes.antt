-- Footnotes in HTML: calls, the numbers of their notes, and what is written of calls and of links back. No specification has footnotes; this is what cmark-gfm
-- writes, but for ids: these have a prefix, and numbers in place of labels.
use Rattle.std.specs.Fmt.{decimal}
use Rattle.std.specs.List.{list_any}
use Rattle.std.specs.Prelude.{ℕ, zero, suc, ◌==◌, Bool, cond, List, [], ◌∷◌, ◌++◌, bytes_eq, codes, length, map, slice_range, Option, None, Some}
use Rattle.markdown_base.specs.declared.event.Event.{Event}
use Rattle.markdown_base.specs.declared.event.Name.{Name}
use Rattle.markdown_base.specs.declared.event.Name.TheVariants as name
use Rattle.markdown_base.specs.Events.{same_name}
use Rattle.markdown_edits.specs.SpanWalks.{is_wanted}
use Rattle.mdinline_labels.specs.Labels.{normalised}
use Rattle.mddocument_link_targets.specs.Spans.{enters, inside}
use Rattle.mdhtml_document.specs.declared.notes.Called.{Called}
use Rattle.mdhtml_document.specs.Spans.{Nothing, Span, Spans, events_of}
use Rattle.mdhtml_markup.specs.declared.elements.Element.TheVariants.{Anchor, Superscript}
use Rattle.mdhtml_markup.specs.Pieces.{Attribute, Classed, Close, FootnoteBack, FootnoteCall, Href, Id, Label, Open, Piece, Text}
use Rattle.mdhtml_markup.specs.SafeHtml.{id_prefix}

-- how many bytes of a document are before the span that the first of these events enters
abbrev pub place_of_first : List Event → ℕ
place_of_first [] = 0
place_of_first (e ∷ es) = e.point.index

-- ---- calls

-- the label that the first data among events is, as labels of links are compared: of a call, and of a footnote definition, by the events in it
abbrev pub label_in : (bytes : List ℕ) → List Event → List ℕ
label_in bytes [] = []
label_in bytes (e ∷ []) = []
label_in bytes (e ∷ (f ∷ fs)) = cond (enters name.Data e) (normalised (slice_range bytes e.point.index f.point.index)) (label_in bytes (f ∷ fs))

-- the calls among events, by the places of the events in them and their labels
abbrev pub calls_in : (bytes : List ℕ) → List Event → List (ℕ × List ℕ)
calls_in bytes [] = []
calls_in bytes (e ∷ es) =
    cond (enters name.GfmFootnoteCall e) ((place_of_first (inside es), label_in bytes (inside es)) ∷ calls_in bytes es) (calls_in bytes es)

-- ---- notes and their numbers, by the labels of calls so far, of which the last one is the first here

-- a label is one of these
abbrev pub is_among : (label : List ℕ) → List (List ℕ) → Bool
is_among label labels = list_any (bytes_eq label) labels

-- the labels of the notes that are called, in the order of their first calls
abbrev pub notes_of : (labels : List (List ℕ)) → List (List ℕ)
notes_of [] = []
notes_of (l ∷ ls) = cond (is_among l ls) (notes_of ls) (notes_of ls ++ l ∷ [])

-- one more call of a note; or the first one, which makes it the next note
abbrev pub next_call : (last : Option Called) → (notes : ℕ) → Called
next_call None notes = record { number = suc notes; repeat = 1 }
next_call (Some c) notes = record { number = c.number; repeat = suc c.repeat }

-- the last call of a label
abbrev pub last_call : (label : List ℕ) → (labels : List (List ℕ)) → Option Called
last_call label [] = None
last_call label (l ∷ ls) = cond (bytes_eq label l) (Some (next_call (last_call label ls) (length (notes_of ls)))) (last_call label ls)

-- the call at a place, of these calls, of which the last one is the first here
abbrev pub labels_of : List (ℕ × List ℕ) → List (List ℕ)
labels_of calls = map (λ c. c.1) calls

abbrev pub called_at : (calls : List (ℕ × List ℕ)) → (place : ℕ) → Option Called
called_at [] place = None
called_at (c ∷ cs) place = cond (place == c.0) (last_call c.1 (labels_of (c ∷ cs))) (called_at cs place)

-- ---- ids

-- the id of a note, and that of a call of it: its number, and for calls behind the first one how many there are up to it
abbrev pub note_id : (number : ℕ) → List ℕ
note_id number = id_prefix ++ (codes "fn-" ++ decimal number)

abbrev pub call_id : (number repeat : ℕ) → List ℕ
call_id number repeat = id_prefix ++ (codes "fnref-" ++ (decimal number ++ cond (repeat == 1) [] (codes "-" ++ decimal repeat)))

-- ---- what is written

abbrev pub classed : List ℕ → List Attribute
classed word = Classed word ∷ []

-- a call: the number of its note, which leads there
abbrev pub call_pieces : Called → List Piece
call_pieces c =
    Open Superscript (classed (codes "footnote-ref"))
    ∷ Open Anchor (Href (codes "#" ++ note_id c.number) ∷ Id (call_id c.number c.repeat) ∷ FootnoteCall ∷ [])
    ∷ Text (decimal c.number) ∷ Close Anchor ∷ Close Superscript ∷ []

-- an arrow, and for calls behind the first one how many there are up to it
abbrev pub arrow : List ℕ
arrow = 226 ∷ 134 ∷ 169 ∷ []

abbrev pub repeated : (repeat : ℕ) → List Piece
repeated repeat = cond (repeat == 1) [] (Open Superscript (classed (codes "footnote-ref")) ∷ Text (decimal repeat) ∷ Close Superscript ∷ [])

-- a link back to a call, and links to so many calls of a note behind the first ones, a space before each but the first
abbrev pub back_link : (number repeat : ℕ) → List Piece
back_link number repeat =
    Open Anchor (Href (codes "#" ++ call_id number repeat) ∷ Classed (codes "footnote-backref") ∷ FootnoteBack ∷ Label (codes "Back to content") ∷ [])
    ∷ Text arrow ∷ (repeated repeat ++ Close Anchor ∷ [])

abbrev pub back_links_from : (number first many : ℕ) → List Piece
back_links_from number first zero = []
back_links_from number first (suc many) = cond (first == 1) [] (Text (codes " ") ∷ []) ++ (back_link number first ++ back_links_from number (suc first) many)

abbrev pub back_links : (number many : ℕ) → List Piece
back_links number many = back_links_from number 1 many

-- ---- definitions

-- Footnote definitions stand in these, and in one another
abbrev pub container_names : List Name
container_names = name.BlockQuote ∷ name.ListItem ∷ name.ListOrdered ∷ name.ListUnordered ∷ []

abbrev pub is_container : Name → Bool
is_container n = is_wanted container_names n

abbrev pub is_note : Name → Bool
is_note n = same_name n name.GfmFootnoteDefinition

-- spans without the footnote definitions among them
abbrev pub own : Spans → Spans
own Nothing = Nothing
own (Span e f s behind) = cond (is_note e.name) (own behind) (Span e f (cond (is_container e.name) (own s) s) (own behind))

-- The footnote definitions among spans, by their labels, with the spans in them: of two that are in one another the inner one first, as in cmark-gfm
abbrev pub notes_in : (bytes : List ℕ) → Spans → List (List ℕ × Spans)
notes_in bytes Nothing = []
notes_in bytes (Span e f s behind) =
    cond (is_note e.name) (notes_in bytes s ++ (label_in bytes (events_of s), own s) ∷ notes_in bytes behind)
    (cond (is_container e.name) (notes_in bytes s) [] ++ notes_in bytes behind)

-- the spans in the first one of a label
abbrev pub note_of : (label : List ℕ) → List (List ℕ × Spans) → Spans
note_of label [] = Nothing
note_of label (n ∷ ns) = cond (bytes_eq label n.0) n.1 (note_of label ns)
