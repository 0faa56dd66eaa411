-- Laws of the HTML of documents.
use Rattle.std.specs.Prelude.{◌≡◌, ℕ, ◌+◌, ◌*◌, ◌^◌, ◌<◌, ◌≤◌, max, true, List, [], length}
use Rattle.markdown_base.specs.declared.configuration.CompileOptions.{CompileOptions}
use Rattle.markdown_base.specs.declared.configuration.Options.{Options}
use Rattle.markdown_base.specs.Presets.{default_compile_options}
use Rattle.markdown_tokenizer.specs.Text.{IsDocument}
use Rattle.mddocument.specs.DocumentEvents.{document_events}
use Rattle.mddocument.specs.Documents.{document}
use Rattle.mdgfm_documents.specs.Documents.{gfm_events}
use Rattle.mdgfm_documents.specs.LinkLaws.{AreInNoLink, all_links}
use Rattle.mdhtml_calls.specs.Document.{html_of_document}
use Rattle.mdhtml_document.specs.HtmlLaws.{are_apart, calls, rows}
use Rattle.mdhtml_document.specs.Notes.{calls_in}
use Rattle.mdhtml_document.specs.Spans.{spans_of}

-- CommonMark's options for HTML, but for what these let through, and whether they filter tags
abbrev pub as_let_through : CompileOptions → CompileOptions
as_let_through options = record default_compile_options {
  allow_any_img_src = options.allow_any_img_src;
  allow_dangerous_html = options.allow_dangerous_html;
  allow_dangerous_protocol = options.allow_dangerous_protocol;
  gfm_tagfilter = options.gfm_tagfilter;
}

-- Of the options for HTML only these do something: all else is written as by default
abbrev pub OtherOptionsDoNothing : Type 0
OtherOptionsDoNothing =
    (options : Options) (bytes : List ℕ) → html_of_document options bytes ≡ html_of_document (record options { compile = as_let_through options.compile }) bytes

-- The HTML of a document in which no link is in a link is in proportion to its bytes, or to 100,000 bytes, to its events, to its rows of tables, and to its calls
-- of footnotes, by how many digits their number has: whatever it refers to, and however often it calls a footnote. (All is counted twice, as it may stand in a
-- footnote)
abbrev pub HtmlOfDocumentsIsLinear : Type 0
HtmlOfDocumentsIsLinear =
    (options : Options) (bytes : List ℕ) (digits : ℕ) → IsDocument (document options.parse bytes) → let events = gfm_events options.parse bytes in
    let tab = options.parse.tab_size in
    let called = length (calls_in bytes events) in
    are_apart (spans_of events) ≡ true → 0 < digits → called < 10 ^ digits → called < 2 ^ 64
    → length (html_of_document options bytes)
    ≤ 2
    * ((((144 * length bytes + max 100000 (length bytes) * (18 * tab + 90)) + length events * (198 * tab + 60)) + 2500 * rows (spans_of events))
    + 9 * ((digits + 8) * calls (spans_of events)))
    + called * (4 * digits + 371)

-- Of a document that calls no footnote it is at most half of that
abbrev pub HtmlWithoutCallsIsLinear : Type 0
HtmlWithoutCallsIsLinear =
    (options : Options) (bytes : List ℕ) → IsDocument (document options.parse bytes) → let events = gfm_events options.parse bytes in
    let tab = options.parse.tab_size in
    are_apart (spans_of events) ≡ true → calls_in bytes events ≡ []
    → length (html_of_document options bytes)
    ≤ ((144 * length bytes + max 100000 (length bytes) * (18 * tab + 90)) + length events * (198 * tab + 60)) + 2500 * rows (spans_of events)

-- No link is in a link of a document if neither a link nor an autolink is in one among its events without calls and literals
abbrev pub DocumentsAreApart : Type 0
DocumentsAreApart =
    (options : Options) (bytes : List ℕ) → IsDocument (document options.parse bytes) → AreInNoLink all_links [] (document_events (document options.parse bytes))
    → are_apart (spans_of (gfm_events options.parse bytes)) ≡ true
