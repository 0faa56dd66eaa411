-- Where the events of texts and strings enter character references (CommonMark 0.31, 2.5 "Entity and numeric character references").
use Rattle.std.specs.Option.{is_some}
use Rattle.std.specs.Prelude.{◌≡◌, ◌⊎◌, ℕ, ◌+◌, All, Bool, List, ◌∷◌, ◌++◌, [], Some, codes, drop, take, true}
use Rattle.markdown_base.specs.declared.configuration.Constructs.{Constructs}
use Rattle.markdown_base.specs.declared.event.Event.{Event}
use Rattle.markdown_base.specs.declared.event.Kind.TheVariants.{Enter, Exit}
use Rattle.markdown_base.specs.declared.event.Name.{Name}
use Rattle.markdown_base.specs.declared.event.Name.TheVariants.{CharacterReference, CharacterReferenceMarker, CharacterReferenceMarkerHexadecimal, CharacterReferenceMarkerNumeric, CharacterReferenceMarkerSemi, CharacterReferenceValue}
use Rattle.markdown_base.specs.declared.event.Point.{Point}
use Rattle.markdown_base.specs.Places.{shown}
use Rattle.markdown_base.specs.Virtual.{Seat}
use Rattle.markdown_tokenizer.specs.Text.{Given, IsDocument, Text}
use Rattle.mdinline_emphasis.specs.Emphasis.{later, unlinked_event}
use Rattle.mdinline_text_machine.specs.Bytes.{has_byte_at, is_ampersand}
use Rattle.mdinline_text_machine.specs.Parts.{bytes_of}
use Rattle.mdinline_constructs.specs.Reference.{Kind, decimal, hexadecimal, is_semicolon, is_value, marks, named, reference, reference_at}
use Rattle.mdinline_machine.specs.InlineEvents.{inline_events}
use Rattle.mdinline_constructs.specs.StringItems.{string_seat_events}
use Rattle.mddocument.specs.DocumentEvents.{document_events}
use Rattle.mddocument_laws.specs.Ranks.{enters}

-- An event stands at a virtual byte of a text from which on the text goes on with a character reference: `&`, a name that HTML has or a number, and `;`
pub record StandsAtReference (bytes : List ℕ) (seats : List Seat) (e : Event) : Type 0 where
  pub before : List Seat
  pub first : Seat
  pub behind : List Seat
  pub are : seats ≡ before ++ first ∷ behind
  pub stands : e.point ≡ shown bytes first.point
  pub there : is_some (reference_at (bytes_of (first ∷ behind))) ≡ true

-- so does each event that enters one
abbrev pub ReferencesStand : (bytes : List ℕ) → List Seat → List Event → Type 0
ReferencesStand bytes seats events = All (λ e. enters CharacterReference e ≡ true → StandsAtReference bytes seats e) events

-- of strings
abbrev pub ReferencesOfStringsStand : Type 0
ReferencesOfStringsStand = (on : Constructs) (bytes : List ℕ) (seats : List Seat) → ReferencesStand bytes seats (string_seat_events on bytes seats)

-- and of inline text, whatever labels are defined
abbrev pub ReferencesOfInlinesStand : Type 0
ReferencesOfInlinesStand = (defined : List ℕ → Bool) (g : Given) (text : Text) → ReferencesStand g.bytes text.seats (inline_events defined g text)

-- What bytes begin with where a character reference is: `&`, `&#` or `&#x`; a value, which is a name that stands for characters (`characters_of`), or
-- digits, so many; and `;`
pub record BeginsWithReference (bytes : List ℕ) : Type 0 where
  pub kind : Kind
  pub count : ℕ
  pub is : reference_at bytes ≡ Some (reference kind count)
  pub first : has_byte_at bytes 0 is_ampersand ≡ true
  pub value : is_value kind (take count (drop (marks kind) bytes)) ≡ true
  pub ends : has_byte_at bytes (marks kind + count) is_semicolon ≡ true

-- of any bytes
abbrev pub ReferencesAreWritten : Type 0
ReferencesAreWritten = (bytes : List ℕ) → is_some (reference_at bytes) ≡ true → BeginsWithReference bytes

-- So in documents: from each event on that enters a character reference, the document's bytes go on with one
abbrev pub ReferencesOfDocumentsStand : Type 0
ReferencesOfDocumentsStand = (g : Given) → IsDocument g → All (λ e. enters CharacterReference e ≡ true → BeginsWithReference (drop e.point.index g.bytes)) (document_events g)

-- ---- where they end

-- a span over so many bytes of a line, from a place on, with these events in it
abbrev pub span_in_line : Name → Point → (size : ℕ) → List Event → List Event
span_in_line name p n events = unlinked_event Enter name p ∷ (events ++ unlinked_event Exit name (later n p) ∷ [])

-- the spans of `&`, `&#` or `&#x`
abbrev pub mark_spans : Kind → Point → List Event
mark_spans named p = span_in_line CharacterReferenceMarker p 1 []
mark_spans decimal p = span_in_line CharacterReferenceMarker p 1 [] ++ span_in_line CharacterReferenceMarkerNumeric (later 1 p) 1 []
mark_spans hexadecimal p =
    span_in_line CharacterReferenceMarker p 1 []
    ++ (span_in_line CharacterReferenceMarkerNumeric (later 1 p) 1 [] ++ span_in_line CharacterReferenceMarkerHexadecimal (later 2 p) 1 [])

-- The events of a reference from a place on, whose value has so many bytes: its span, which ends directly behind `;`, and in it those of its markers,
-- of its value and of `;`
abbrev pub reference_span : Kind → (count : ℕ) → Point → List Event
reference_span kind n p =
    span_in_line CharacterReference p (marks kind + n + 1)
    (mark_spans kind p ++ (span_in_line CharacterReferenceValue (later (marks kind) p) n [] ++ span_in_line CharacterReferenceMarkerSemi (later (marks kind + n) p) 1 []))

-- An event and those behind it are first of all the events of the reference that the bytes have there: so its exit stands directly behind `;`, and
-- the bytes of its value are those of the span of the value
pub record IsWholeReference (bytes : List ℕ) (e : Event) (behind : List Event) : Type 0 where
  pub begins : BeginsWithReference (drop e.point.index bytes)
  pub others : List Event
  pub are : e ∷ behind ≡ reference_span begins.kind begins.count e.point ++ others

-- so it is wherever an event of a document enters one
abbrev pub ReferencesOfDocumentsEnd : Type 0
ReferencesOfDocumentsEnd = (g : Given) → IsDocument g → (before behind : List Event) (e : Event) → document_events g ≡ before ++ e ∷ behind → enters CharacterReference e ≡ true
    → IsWholeReference g.bytes e behind

-- What stands before the value: `&`, `&#`, and `&#x` or `&#X`
abbrev pub IsMark : Kind → List ℕ → Type 0
IsMark named mark = mark ≡ codes "&"
IsMark decimal mark = mark ≡ codes "&#"
IsMark hexadecimal mark = (mark ≡ codes "&#x") ⊎ (mark ≡ codes "&#X")

-- The bytes of a reference, from its beginning to its end, are these, its value, and `;`
pub record IsSpelled (bytes : List ℕ) (kind : Kind) (count : ℕ) : Type 0 where
  pub mark : IsMark kind (take (marks kind) bytes)
  pub whole : take (marks kind + count + 1) bytes ≡ take (marks kind) bytes ++ (take count (drop (marks kind) bytes) ++ codes ";")

-- of any bytes
abbrev pub ReferencesAreSpelled : Type 0
ReferencesAreSpelled = (bytes : List ℕ) (kind : Kind) (count : ℕ) → reference_at bytes ≡ Some (reference kind count) → IsSpelled bytes kind count
