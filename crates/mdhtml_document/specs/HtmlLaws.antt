-- Laws of the HTML of documents.
use Rattle.std.specs.Fmt.{decimal}
use Rattle.std.specs.Option.{option_map_or}
use Rattle.std.specs.Prelude.{◌≡◌, ◌++◌, ◌∷◌, ℕ, ◌+◌, ◌-◌, ◌*◌, ◌<◌, ◌≤◌, max, ⊤, ◌&&◌, ◌||◌, not, Bool, true, false, cond, List, [], Option, Some, length}
use Rattle.markdown_base.specs.declared.configuration.CompileOptions.{CompileOptions}
use Rattle.markdown_base.specs.declared.event.Event.{Event}
use Rattle.markdown_base.specs.declared.event.Name.TheVariants as name
use Rattle.markdown_base.specs.Events.{IsBalanced}
use Rattle.mdhtml_document.specs.declared.names.Block.{Block}
use Rattle.mdhtml_document.specs.declared.names.Block.TheVariants as block
use Rattle.mdhtml_document.specs.declared.names.Inline.{Inline}
use Rattle.mdhtml_document.specs.declared.names.Inline.TheVariants as inline
use Rattle.mdhtml_document.specs.declared.notes.Called.{Called}
use Rattle.mdhtml_document.specs.declared.shapes.Mode.TheVariants as mode
use Rattle.mdhtml_document.specs.Html.{Known, html_by, html_with_notes, known_in, pieces, references, section}
use Rattle.mdhtml_document.specs.Names.{block_of, inline_of}
use Rattle.mdhtml_document.specs.Spans.{Nothing, Span, Spans, spans_of}
use Rattle.mdhtml_markup.specs.Flow.{IsFlow}
use Rattle.mdhtml_markup.specs.Pieces.{is_fresh}
use Rattle.mdhtml_markup.specs.SafeHtml.{IsSafeHtml}
use Rattle.mdhtml_markup.specs.ShownText.{said_from, text_of}
use Rattle.mddocument_link_targets.specs.declared.targets.Parts.{Parts}
use Rattle.mddocument_link_targets.specs.Spans.{enters}

-- no option that lets something through is on
pub record AreSafeOptions (options : CompileOptions) : Type 0 where
  pub html : options.allow_dangerous_html ≡ false
  pub protocol : options.allow_dangerous_protocol ≡ false
  pub images : options.allow_any_img_src ≡ false

-- Whatever the document is, whatever its labels are defined as, and whatever its events are, its HTML is safe
abbrev pub HtmlIsSafe : Type 0
HtmlIsSafe =
    (options : CompileOptions) (bytes : List ℕ) (known : Known) (tab : ℕ) (events : List Event) → AreSafeOptions options
    → IsSafeHtml [] (html_by options bytes known tab events)

-- The text between its tags, with its entities undone, is all texts of the document's pieces, and their line feeds: nothing that is written as text is lost
abbrev pub HtmlKeepsText : Type 0
HtmlKeepsText =
    (options : CompileOptions) (bytes : List ℕ) (known : Known) (tab : ℕ) (events : List Event) → AreSafeOptions options
    → text_of (html_by options bytes known tab events) ≡ said_from true (pieces options bytes known tab mode.Flow [] (spans_of events))

-- And both hold with the section of footnotes
abbrev pub HtmlWithNotesIsSafe : Type 0
HtmlWithNotesIsSafe =
    (options : CompileOptions) (bytes : List ℕ) (known : Known) (tab : ℕ) (events : List Event) → AreSafeOptions options
    → IsSafeHtml [] (html_with_notes options bytes known tab events)

abbrev pub HtmlWithNotesKeepsText : Type 0
HtmlWithNotesKeepsText =
    (options : CompileOptions) (bytes : List ℕ) (known : Known) (tab : ℕ) (events : List Event) → AreSafeOptions options
    → text_of (html_with_notes options bytes known tab events)
    ≡ said_from true (pieces options bytes known tab mode.Flow [] (spans_of events) ++ section options bytes known tab events)

-- There is a link in a span of inline text, by what that is and whether there is one among the spans in it. Autolinks, literals and calls of footnotes are links. An image's
-- links are told as text
abbrev pub has_links_by : Inline → (inner : Bool) → Bool
has_links_by inline.Link inner = true
has_links_by inline.Autolink inner = true
has_links_by inline.Www inner = true
has_links_by inline.Email inner = true
has_links_by inline.Address inner = true
has_links_by inline.Call inner = true
has_links_by inline.Image inner = false
has_links_by _ inner = inner

abbrev pub has_links : Spans → Bool
has_links Nothing = false
has_links (Span e f s behind) = has_links_by (inline_of e.name) (has_links s) || has_links behind

-- it is a link, and there is one in it
abbrev pub is_linked : Inline → (inner : Bool) → Bool
is_linked inline.Link inner = inner
is_linked _ inner = false

-- No link is in a link. (CommonMark lets an autolink be in one; HTML does not)
abbrev pub are_apart : Spans → Bool
are_apart Nothing = true
are_apart (Span e f s behind) = not (is_linked (inline_of e.name) (has_links s)) && (are_apart s && are_apart behind)

-- Where no link is in a link, a browser reads the HTML as the tree that it is written as: each tag stands where its element may
abbrev pub HtmlIsFlow : Type 0
HtmlIsFlow =
    (options : CompileOptions) (bytes : List ℕ) (known : Known) (tab : ℕ) (events : List Event) → AreSafeOptions options
    → are_apart (spans_of events) ≡ true → IsFlow (html_by options bytes known tab events)

-- also with the section of footnotes
abbrev pub HtmlWithNotesIsFlow : Type 0
HtmlWithNotesIsFlow =
    (options : CompileOptions) (bytes : List ℕ) (known : Known) (tab : ℕ) (events : List Event) → AreSafeOptions options
    → are_apart (spans_of events) ≡ true → IsFlow (html_with_notes options bytes known tab events)

-- behind a whole line, and where nothing was written yet, HTML begins as at the start
abbrev pub EndsLine : List ℕ → Type 0
EndsLine h = is_fresh true h ≡ true

-- HTML of two parts of a document, read apart and by the same labels, is the HTML of the one and then of the other
abbrev pub HtmlOfBoth : Type 0
HtmlOfBoth =
    (options : CompileOptions) (bytes : List ℕ) (known : Known) (tab : ℕ) (es fs : List Event) → IsBalanced es → IsBalanced fs
    → EndsLine (html_by options bytes known tab es)
    → html_by options bytes known tab (es ++ fs) ≡ html_by options bytes known tab es ++ html_by options bytes known tab fs

-- ---- how long HTML is

-- how far it is from an event to the next one: so many bytes, and virtual spaces behind them
abbrev pub ahead : Event → List Event → ℕ
ahead e [] = 0
ahead e (f ∷ fs) = (f.point.index - e.point.index) + f.point.vs

-- The room that events have for text. A byte of a character reference stands for three bytes at most (`&#0;`; four are counted), a line may begin with
-- the columns of a tab, and an empty line ending is a byte. Of events that go forward it is in proportion to the document and their number
abbrev pub room : (tab : ℕ) → List Event → ℕ
room tab [] = 0
room tab (e ∷ es) = (4 * ahead e es + (tab + 1)) + room tab es

-- how long the destination and the title are that a label is defined as
abbrev pub length_of_parts : Option Parts → ℕ
length_of_parts parts = option_map_or (λ p. length p.destination + option_map_or length p.title 0) parts 0

-- how many rows of tables there are among spans
abbrev pub is_row : Block → Bool
is_row block.TableRow = true
is_row b = false

abbrev pub rows : Spans → ℕ
rows Nothing = 0
rows (Span e f s behind) = cond (is_row (block_of e.name)) 1 0 + (rows s + rows behind)

-- how many calls of footnotes there are among spans
abbrev pub is_call : Inline → Bool
is_call inline.Call = true
is_call i = false

abbrev pub calls : Spans → ℕ
calls Nothing = 0
calls (Span e f s behind) = cond (is_call (inline_of e.name)) 1 0 + (calls s + calls behind)

-- the numbers of a call have no more than so many digits
pub record IsBrief (digits : ℕ) (c : Called) : Type 0 where
  pub number : length (decimal c.number) ≤ digits
  pub repeat : length (decimal c.repeat) ≤ digits

abbrev pub AreBrief : (digits : ℕ) → Known → Type 0
AreBrief digits known = (place : ℕ) (c : Called) → known.called place ≡ Some c → IsBrief digits c

-- Where no link is in a link, HTML is no longer than this: the text of each event is in it once, six times as long if it is all quotation marks, or
-- nine times if it is all NUL in an address; and again in the title and the description of an image, and in the link around that. Tags are 48 bytes a
-- span at most, and the cells that a row lacks 2,500. What labels are defined as is in it as often as links and images refer to it.
-- A call is 9 bytes more for each digit, and 72
abbrev pub HtmlIsShort : Type 0
HtmlIsShort =
    (options : CompileOptions) (bytes : List ℕ) (known : Known) (tab digits : ℕ) (events : List Event) → IsBalanced events → AreBrief digits known
    → are_apart (spans_of events) ≡ true
    → length (html_by options bytes known tab events)
    ≤ (((36 * room tab events + 24 * length events) + 9 * references bytes (λ label. length_of_parts (known.lookup label)) (spans_of events))
    + 9 * ((digits + 8) * calls (spans_of events)))
    + 2500 * rows (spans_of events)

-- a line ending has a byte, by the events behind its enter
abbrev pub HasByte : Event → List Event → Type 0
HasByte e [] = ⊤
HasByte e (f ∷ fs) = enters name.LineEnding e ≡ true → e.point.index < f.point.index

-- Events go forward from a byte, over no more than so many bytes, with no more virtual spaces than a tab has columns
abbrev pub GoForward : (tab most from : ℕ) → List Event → Type 0
GoForward tab most from [] = ⊤
GoForward tab most from (e ∷ es) =
    (from ≤ e.point.index) × (e.point.index ≤ most) × (e.point.vs ≤ tab) × HasByte e es × GoForward tab most e.point.index es

-- The HTML of a document but for its section of footnotes is in proportion to its length, or to 100,000 bytes, to its events, and to its rows of tables and
-- calls of footnotes: whatever it refers to
abbrev pub HtmlIsLinear : Type 0
HtmlIsLinear =
    (options : CompileOptions) (bytes : List ℕ) (tab digits : ℕ) (events : List Event) → IsBalanced events → GoForward tab (length bytes) 0 events
    → AreBrief digits (known_in bytes events) → are_apart (spans_of events) ≡ true
    → length (html_by options bytes (known_in bytes events) tab events)
    ≤ (((144 * length bytes + 72 * max 100000 (length bytes)) + length events * (180 * tab + 60)) + 9 * ((digits + 8) * calls (spans_of events)))
    + 2500 * rows (spans_of events)
