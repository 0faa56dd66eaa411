-- Documents, and the events of their text written out: examples of the definition, each proved by computing.
use Rattle.mdinline_text_machine.proofs.Prelude.{◌≡◌, ℕ, ◌+◌, List, [], ◌∷◌, ◌++◌, Bool, true, false, Option, Some, None, refl, take, drop, codes, replicate, Constructs, Event, Enter, Exit, Paragraph, Data, LineEnding, BlockQuoteMarker, CodeText, CodeTextSequence, CodeTextData, Autolink, AutolinkMarker, AutolinkProtocol, CharacterEscape, CharacterEscapeMarker, CharacterEscapeValue, point, virtual, default_constructs, default_parse_options, given_by, with_data, with_texts, seat_events}
use Rattle.markdown_base.specs.declared.event.Content.TheVariants.{Text}
use Rattle.markdown_base.specs.declared.event.Name.{Name}

-- the events of a whole document
abbrev events_of : Constructs → List ℕ → List Event
events_of on bytes = seat_events on bytes (virtual 4 bytes)

abbrev by_default : List ℕ → List Event
by_default bytes = events_of default_constructs bytes

-- events at a place of the document: a line, a column and a byte index
abbrev begins_at : Name → (line column index : ℕ) → Event
begins_at name line column index = record { kind = Enter; name = name; point = point line column index 0; link = None }

abbrev ends_at : Name → (line column index : ℕ) → Event
ends_at name line column index = record { kind = Exit; name = name; point = point line column index 0; link = None }

-- events in the first line, by their byte index, without a tab before them
abbrev begins : Name → ℕ → Event
begins name index = begins_at name 1 (index + 1) index

abbrev ends : Name → ℕ → Event
ends name index = ends_at name 1 (index + 1) index

-- a span of the first line that holds no other
abbrev holds : Name → (from to : ℕ) → List Event
holds name from to = begins name from ∷ ends name to ∷ []

-- only these three constructs may be on
abbrev only : (code_text autolink character_escape : Bool) → Constructs
only code_text autolink character_escape = record default_constructs { code_text = code_text; autolink = autolink; character_escape = character_escape }

-- a text that leaves out the byte at an index, as where a gap was passed
abbrev without_byte : ℕ → List ℕ → List Event
without_byte index bytes = seat_events default_constructs bytes (take index (virtual 4 bytes) ++ drop (index + 1) (virtual 4 bytes))

-- A code span
pub code-span : by_default (codes "`a`") ≡ begins CodeText 0 ∷ (holds CodeTextSequence 0 1 ++ (holds CodeTextData 1 2 ++ (holds CodeTextSequence 2 3 ++ ends CodeText 3 ∷ [])))
code-span = refl

-- Runs of other lengths close nothing
pub shorter-run : by_default (codes "``a`") ≡ holds Data 0 3 ++ holds Data 3 4
shorter-run = refl

pub longer-run : by_default (codes "`a``") ≡ holds Data 0 2 ++ holds Data 2 4
longer-run = refl

pub never-closes : by_default (codes "`a``b```") ≡ holds Data 0 2 ++ (holds Data 2 5 ++ holds Data 5 8)
never-closes = refl

pub run-inside : by_default (codes "`a``b`") ≡ begins CodeText 0 ∷ (holds CodeTextSequence 0 1 ++ (holds CodeTextData 1 2 ++ (holds CodeTextData 2 5 ++ (holds CodeTextSequence 5 6 ++ ends CodeText 6 ∷ []))))
run-inside = refl

-- An autolink, and schemes of one, 32 and 33 letters
pub uri-link : by_default (codes "<ab:c>") ≡ begins Autolink 0 ∷ (holds AutolinkMarker 0 1 ++ (holds AutolinkProtocol 1 5 ++ (holds AutolinkMarker 5 6 ++ ends Autolink 6 ∷ [])))
uri-link = refl

pub short-scheme : by_default (codes "<a:b>") ≡ holds Data 0 5
short-scheme = refl

pub longest-scheme : by_default (60 ∷ replicate 32 97 ++ codes ":>") ≡ begins Autolink 0 ∷ (holds AutolinkMarker 0 1 ++ (holds AutolinkProtocol 1 34 ++ (holds AutolinkMarker 34 35 ++ ends Autolink 35 ∷ [])))
longest-scheme = refl

pub long-scheme : by_default (60 ∷ replicate 33 97 ++ codes ":>") ≡ holds Data 0 36
long-scheme = refl

pub blank-in-link : by_default (codes "<ab:c d>") ≡ holds Data 0 8
blank-in-link = refl

-- Escapes: of `*` and not of `a`; none inside a code span; and one before a run of backticks, which then begins behind it
pub escaped-mark : by_default (codes "\\*\\a") ≡ begins CharacterEscape 0 ∷ (holds CharacterEscapeMarker 0 1 ++ (holds CharacterEscapeValue 1 2 ++ (ends CharacterEscape 2 ∷ holds Data 2 4)))
escaped-mark = refl

pub escape-in-code : by_default (codes "`\\`") ≡ begins CodeText 0 ∷ (holds CodeTextSequence 0 1 ++ (holds CodeTextData 1 2 ++ (holds CodeTextSequence 2 3 ++ ends CodeText 3 ∷ [])))
escape-in-code = refl

pub escape-before-run : by_default (codes "\\``a`") ≡ begins CharacterEscape 0 ∷ (holds CharacterEscapeMarker 0 1 ++ (holds CharacterEscapeValue 1 2 ++ (ends CharacterEscape 2
    ∷ begins CodeText 2 ∷ (holds CodeTextSequence 2 3 ++ (holds CodeTextData 3 4 ++ (holds CodeTextSequence 4 5 ++ ends CodeText 5 ∷ []))))))
escape-before-run = refl

-- Constructs that are off
pub no-code : events_of (only false true true) (codes "`a`") ≡ holds Data 0 2 ++ holds Data 2 3
no-code = refl

pub no-autolink : events_of (only true false true) (codes "<ab:c>") ≡ holds Data 0 6
no-autolink = refl

pub no-escape : events_of (only true true false) (codes "\\*") ≡ holds Data 0 2
no-escape = refl

-- Line endings, in a code span and in plain text; a gap; and no bytes
pub line-in-code : by_default (codes "`a\n>b`") ≡ begins CodeText 0 ∷ (holds CodeTextSequence 0 1 ++ (holds CodeTextData 1 2 ++ (begins LineEnding 2 ∷ ends_at LineEnding 2 1 3
    ∷ begins_at CodeTextData 2 1 3 ∷ ends_at CodeTextData 2 3 5 ∷ begins_at CodeTextSequence 2 3 5 ∷ ends_at CodeTextSequence 2 4 6 ∷ ends_at CodeText 2 4 6 ∷ [])))
line-in-code = refl

pub gap-in-code : without_byte 3 (codes "`a\n>b`") ≡ begins CodeText 0 ∷ (holds CodeTextSequence 0 1 ++ (holds CodeTextData 1 2 ++ (begins LineEnding 2 ∷ ends_at LineEnding 2 1 3
    ∷ begins_at CodeTextData 2 2 4 ∷ ends_at CodeTextData 2 3 5 ∷ begins_at CodeTextSequence 2 3 5 ∷ ends_at CodeTextSequence 2 4 6 ∷ ends_at CodeText 2 4 6 ∷ [])))
gap-in-code = refl

pub carriage-return : by_default (codes "a\r\nb") ≡ holds Data 0 1 ++ (begins LineEnding 1 ∷ ends_at LineEnding 2 1 3 ∷ begins_at Data 2 1 3 ∷ ends_at Data 2 2 4 ∷ [])
carriage-return = refl

pub nothing : by_default [] ≡ []
nothing = refl

-- A chain of text: two chunks of a paragraph, and before the second one a quote mark, which is not part of it
abbrev chunk_at : (previous next : Option ℕ) → (line column index : ℕ) → Event
chunk_at previous next line column index =
    record { kind = Enter; name = Data; point = point line column index 0; link = Some (record { previous = previous; next = next; content = Text }) }

abbrev quoted : List Event
quoted = begins Paragraph 0 ∷ chunk_at None (Some 5) 1 1 0 ∷ ends_at Data 2 1 3 ∷ begins_at BlockQuoteMarker 2 1 3 ∷ ends_at BlockQuoteMarker 2 2 4
    ∷ chunk_at (Some 1) None 2 2 4 ∷ ends_at Data 2 4 6 ∷ ends_at Paragraph 2 4 6 ∷ []

pub quoted-code : with_texts (given_by (codes "`a\n>b`") default_parse_options) quoted ≡ begins Paragraph 0 ∷ begins CodeText 0 ∷ (holds CodeTextSequence 0 1 ++ (holds CodeTextData 1 2
    ++ (begins LineEnding 2 ∷ ends_at LineEnding 2 1 3 ∷ begins_at BlockQuoteMarker 2 1 3 ∷ ends_at BlockQuoteMarker 2 2 4 ∷ begins_at CodeTextData 2 2 4 ∷ ends_at CodeTextData 2 3 5
    ∷ begins_at CodeTextSequence 2 3 5 ∷ ends_at CodeTextSequence 2 4 6 ∷ ends_at CodeText 2 4 6 ∷ ends_at Paragraph 2 4 6 ∷ [])))
quoted-code = refl

-- as Paragraphs reads that chain: data and the line ending, each in its chunk
pub quoted-data : with_data (given_by (codes "`a\n>b`") default_parse_options) quoted ≡ begins Paragraph 0 ∷ (holds Data 0 2 ++ (begins LineEnding 2 ∷ ends_at LineEnding 2 1 3
    ∷ begins_at BlockQuoteMarker 2 1 3 ∷ ends_at BlockQuoteMarker 2 2 4 ∷ begins_at Data 2 2 4 ∷ ends_at Data 2 4 6 ∷ ends_at Paragraph 2 4 6 ∷ []))
quoted-data = refl
