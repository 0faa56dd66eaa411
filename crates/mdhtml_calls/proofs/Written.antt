-- The HTML of a document is in proportion to it, as its events go ahead.
use Rattle.std.proofs.Common.{◌≡◌, ◌∙◌, ◌+◌, ◌≤◌, ℕ, List, [], ◌∷◌, ap, length, refl, subst, sym, arith}
use Rattle.std.proofs.lemmas.List.{length-append, length-map, length-reverse}
use Rattle.markdown_base.specs.declared.configuration.Options.{Options}
use Rattle.markdown_base.specs.declared.event.Event.{Event}
use Rattle.markdown_base.specs.declared.event.Point.{Point}
use Rattle.mdgfm_documents.proofs.Whole.{gfm-is-balanced}
use Rattle.mdgfm_documents.specs.Documents.{gfm_events}
use Rattle.mdgfm_literals.proofs.Order.{Goes}
use Rattle.mdhtml_calls.specs.Document.{html_of_document}
use Rattle.mdhtml_calls.specs.Laws.{HtmlOfDocumentsIsLinear, HtmlWithoutCallsIsLinear}
use Rattle.mdhtml_calls.proofs.Brief.{calls-brief, digits-few}
use Rattle.mdhtml_calls.proofs.Counted.{calls-counted}
use Rattle.mdhtml_calls.proofs.LinksShort.{AreFew, section-short}
use Rattle.mdhtml_calls.proofs.OwnShort.{own-short, total, weight}
use Rattle.mdhtml_document.proofs.Written.{html-append}
use Rattle.mdhtml_document.specs.declared.shapes.Mode.TheVariants as mode
use Rattle.mdhtml_document.specs.Html.{html_by, known_in, pieces, section, section_by}
use Rattle.mdhtml_document.specs.HtmlLaws.{calls}
use Rattle.mdhtml_document.specs.Notes.{calls_in, labels_of, notes_in, own}
use Rattle.mdhtml_document.specs.Spans.{spans_of}
use Rattle.mdhtml_document.proofs.ShortShapes.{html-longs, longs}
use Rattle.mdhtml_markup.specs.Pieces.{html_from, is_fresh}
use Rattle.std.specs.Prelude.{◌*◌, reverse, true}
use Rattle.mdhtml_calls.proofs.Ahead.{EndsAhead, GoAhead, html-ahead, weight-ahead}
use Rattle.mdgfm_documents.proofs.Ended.{AreEnded, IsEnded}
use Rattle.mdgfm_documents.proofs.TasksAhead.{AreInside}
use Rattle.mdgfm_documents.proofs.GoAhead.{gfm-ahead, start}

one-ahead : (e : Event) (es : List Event) → IsEnded e es → EndsAhead e es
one-ahead e [] h = tt
one-ahead e (f ∷ fs) h = λ enter. (h enter).1

go-ahead : (tab most : ℕ) (from : Point) (es : List Event) → Goes from es → AreInside tab most es → AreEnded es → GoAhead tab most from es
go-ahead tab most from [] goes inside ended = tt
go-ahead tab most from (e ∷ es) goes inside ended = (goes.0, inside.0.0, inside.0.1, one-ahead e es ended.0, go-ahead tab most e.point es goes.1 inside.1 ended.1)

-- what is written of the section of footnotes
abbrev last : Options → List ℕ → List ℕ
last options bytes =
    let events = gfm_events options.parse bytes in
    let known = known_in bytes events in
    html_from (is_fresh true (html_by options.compile bytes known options.parse.tab_size events)) (section options.compile bytes known options.parse.tab_size events)

with-section : (options : Options) (bytes : List ℕ) → let events = gfm_events options.parse bytes in
    length (html_of_document options bytes) ≡ length (html_by options.compile bytes (known_in bytes events) options.parse.tab_size events) + length (last options bytes)
with-section options bytes =
    let events = gfm_events options.parse bytes in
    let known = known_in bytes events in
    let tab = options.parse.tab_size in
    ap (λ (h : List ℕ). length h) (html-append (pieces options.compile bytes known tab mode.Flow [] (spans_of events)) (section options.compile bytes known tab events))
    ∙ length-append (html_by options.compile bytes known tab events) (last options bytes)

in-all : (long body section longs own total weight all calls called : ℕ) → long ≡ body + section → body ≤ all → section ≤ longs → longs ≤ total + calls → own + total ≤ weight → weight ≤ all → calls ≡ called
    → long ≤ 2 * all + called
in-all long body section longs own total weight all calls called h i j k l m n = omega (arith, h, i, j, k, l, m, n)

pub written-linear : HtmlOfDocumentsIsLinear
written-linear options bytes digits is free some few fits =
    let tab = options.parse.tab_size in
    let events = gfm_events options.parse bytes in
    let known = known_in bytes events in
    let s = spans_of events in
    let h = gfm-ahead options.parse bytes is in
    let balanced = gfm-is-balanced options.parse bytes is in
    let go = go-ahead tab (length bytes) start events h.goes h.inside h.ended in
    let brief = calls-brief bytes events digits some few fits in
    let calls = calls_in bytes events in
    let labels = labels_of (reverse calls) in
    let count : length labels ≡ length calls = length-map (reverse calls) (λ (c : ℕ × List ℕ). c.1) ∙ length-reverse calls in
    let numbers : AreFew digits (length labels) = subst (AreFew digits) (sym count) (digits-few digits (length calls) some few fits) in
    let body = html-ahead options.compile bytes tab digits start events balanced go brief free in
    let weighs = weight-ahead options.compile bytes tab digits start events brief balanced go in
    let longest = html-longs (is_fresh true (html_by options.compile bytes known tab events)) (section options.compile bytes known tab events) in
    let notes = section-short options.compile bytes known tab digits (notes_in bytes s) labels numbers in
    let own-fits = own-short options.compile bytes known tab digits brief s free mode.Flow refl in
    in-all (length (html_of_document options bytes)) (length (html_by options.compile bytes known tab events)) (length (last options bytes)) (longs (section options.compile bytes known tab events))
    (longs (pieces options.compile bytes known tab mode.Flow [] (own s))) (total options.compile bytes known tab (notes_in bytes s)) (weight options.compile bytes known tab digits brief s) _
    (length labels * (4 * digits + 371)) (length calls * (4 * digits + 371)) (with-section options bytes) body longest notes own-fits weighs (ap (λ n. n * (4 * digits + 371)) count)

-- ---- where nothing is called

in-body : (long body section most calls : ℕ) → long ≡ body + section → section ≡ 0 → body ≤ most + 9 * ((1 + 8) * calls) → calls ≤ 0 → long ≤ most
in-body long body section most calls h i j k = omega (arith, h, i, j, k)

pub uncalled-linear : HtmlWithoutCallsIsLinear
uncalled-linear options bytes is free none =
    let tab = options.parse.tab_size in
    let events = gfm_events options.parse bytes in
    let known = known_in bytes events in
    let s = spans_of events in
    let h = gfm-ahead options.parse bytes is in
    let balanced = gfm-is-balanced options.parse bytes is in
    let go = go-ahead tab (length bytes) start events h.goes h.inside h.ended in
    let few : length (calls_in bytes events) ≡ 0 = ap (λ (cs : List (ℕ × List ℕ)). length cs) none in
    let brief = calls-brief bytes events 1 (omega arith) (omega (arith, few)) (omega (arith, few)) in
    let body = html-ahead options.compile bytes tab 1 start events balanced go brief free in
    let count = calls-counted bytes events balanced in
    let fresh = is_fresh true (html_by options.compile bytes known tab events) in
    let empty : length (last options bytes) ≡ 0 =
    ap (λ (cs : List (ℕ × List ℕ)). length (html_from fresh (section_by options.compile bytes known tab (notes_in bytes s) (labels_of (reverse cs))))) none
    in
    in-body (length (html_of_document options bytes)) (length (html_by options.compile bytes known tab events)) (length (last options bytes)) _ (calls s) (with-section options bytes) empty body
    (omega (arith, few, count))
