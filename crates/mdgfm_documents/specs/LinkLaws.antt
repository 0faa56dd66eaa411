-- What stands in links: checks, calls and literals put nothing into one.
use Rattle.std.specs.Prelude.{◌≡◌, ⊤, ℕ, ◌&&◌, Bool, true, false, cond, List, [], ◌∷◌, ◌++◌, drop}
use Rattle.std.specs.List.{AllByRecursion, list_any}
use Rattle.markdown_base.specs.declared.configuration.ParseOptions.{ParseOptions}
use Rattle.markdown_base.specs.declared.event.Event.{Event}
use Rattle.markdown_base.specs.declared.event.Name.{Name}
use Rattle.markdown_base.specs.declared.event.Name.TheVariants.{Autolink, GfmFootnoteCall, Link}
use Rattle.markdown_base.specs.Events.{IsBalanced, is_enter, same_name}
use Rattle.markdown_tokenizer.specs.Text.{IsDocument}
use Rattle.mddocument.specs.DocumentEvents.{document_events}
use Rattle.mddocument.specs.Documents.{document}
use Rattle.mdgfm_footnotes.specs.Laws.{call_names}
use Rattle.mdgfm_literals.specs.Laws.{literal_names}
use Rattle.mdgfm_literals.specs.Stretches.{is_among}
use Rattle.mdgfm_tasks.specs.Laws.{check_names}
use Rattle.mdgfm_documents.specs.Documents.{gfm_events, with_gfm}

-- the names of the spans that are open behind an event, the innermost first
abbrev pub open_behind : (names : List Name) → Event → List Name
open_behind names e = cond (is_enter e.kind) (e.name ∷ names) (drop 1 names)

-- one of them is a link
abbrev pub has_link : (names : List Name) → Bool
has_link names = list_any (λ n. same_name n Link) names

-- In no link a span begins whose name passes a test, where spans of these names are open in front of the events
abbrev pub AreInNoLink : (test : Name → Bool) → (names : List Name) → List Event → Type 0
AreInNoLink test names [] = ⊤
AreInNoLink test names (e ∷ es) = (has_link names ≡ true → (is_enter e.kind && test e.name) ≡ false) × AreInNoLink test (open_behind names e) es

-- Checks, calls and literals put nothing into a link: spans that were in none are in none, but for the parts of checks and of calls, of which nothing is said
abbrev pub LinksAreKept : Type 0
LinksAreKept =
    (test : Name → Bool) (options : ParseOptions) (bytes : List ℕ) (events : List Event) → IsBalanced events
    → AllByRecursion (λ n. test n ≡ false) (check_names ++ drop 1 call_names) → AreInNoLink test [] events → AreInNoLink test [] (with_gfm options bytes events)

-- calls of footnotes and autolink literals are links of their own
abbrev pub further_links : Name → Bool
further_links = is_among (GfmFootnoteCall ∷ literal_names)

-- So no call and no literal of a document is in a link, as its own events have none
abbrev pub LinksHoldNone : Type 0
LinksHoldNone =
    (options : ParseOptions) (bytes : List ℕ) → IsDocument (document options bytes) → let events = document_events (document options bytes) in
    AllByRecursion (λ e. further_links e.name ≡ false) events → AreInNoLink further_links [] (gfm_events options bytes)

-- And where neither a link nor an autolink is in a link among its own events, no link of any kind is in a link
abbrev pub all_links : Name → Bool
all_links = is_among (Link ∷ Autolink ∷ GfmFootnoteCall ∷ literal_names)

abbrev pub LinksHoldNoLinks : Type 0
LinksHoldNoLinks =
    (options : ParseOptions) (bytes : List ℕ) → IsDocument (document options bytes) → AreInNoLink all_links [] (document_events (document options bytes))
    → AreInNoLink all_links [] (gfm_events options bytes)
