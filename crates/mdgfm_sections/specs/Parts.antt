-- What GFM adds to a document whose events are those of two parts, or of sections: it is what it adds to each part alone.
use Rattle.std.specs.Prelude.{◌≡◌, ◌≤◌, ℕ, Bool, true, List, ◌++◌, length, map, Option, None}
use Rattle.std.specs.List.{AllByRecursion}
use Rattle.markdown_base.specs.declared.configuration.ParseOptions.{ParseOptions}
use Rattle.markdown_base.specs.declared.event.Event.{Event}
use Rattle.markdown_base.specs.declared.event.Link.{Link}
use Rattle.markdown_base.specs.Events.{IsBalanced, IsInOrder}
use Rattle.markdown_tokenizer.specs.Text.{IsDocument}
use Rattle.mddocument.specs.Documents.{document}
use Rattle.mddocument_laws.specs.NamesOff.{AreDefinedIfOn}
use Rattle.mddocument_parts.specs.BothDocuments.{IsOfBoth, events_by, is_rest}
use Rattle.mddocument_parts.specs.Sections.{are_sections_by, document_of, events_of_sections}
use Rattle.mdgfm_documents.specs.Documents.{with_gfm_by}
use Rattle.mdgfm_footnotes.specs.Laws.{HaveNoCalls}
use Rattle.mdgfm_literals.specs.Laws.{begins_block, end_line, further_event}
use Rattle.mdgfm_tasks.specs.declared.awaited.Awaited.TheVariants.{Nothing}
use Rattle.mdgfm_tasks.specs.Laws.{awaited_from}
use Rattle.mdgfm_tasks.specs.TaskEvents.{task_events}

-- The events of bytes that are a document with what GFM adds, by which labels of links are defined and which of footnotes are noted
abbrev pub gfm_events_by : ParseOptions → (defined noted : (label : List ℕ) → Bool) → (bytes : List ℕ) → List Event
gfm_events_by options defined noted bytes = with_gfm_by noted options bytes (events_by options defined bytes)

-- ---- any events

-- Events of lines stand apart from others behind them: they end the spans that they begin and stand in these lines, among them is no call yet, behind them no
-- item's first block is awaited, and the others begin with no text
pub record StandApart (tab : ℕ) (first : List ℕ) (xs ys : List Event) : Type 0 where
  pub lines : end_line first ≡ true
  pub balanced : IsBalanced xs
  pub within : AllByRecursion (λ e. (e.point.index ≤ length first) × (e.point.vs ≤ tab)) xs
  pub uncalled : HaveNoCalls xs
  pub awaits : awaited_from Nothing xs ≡ Nothing
  pub begins : begins_block ys ≡ true

-- Behind other bytes checks are the same, further on
abbrev pub TasksMove : Type 0
TasksMove =
    (options : ParseOptions) (lines : ℕ) (before bytes : List ℕ) (links : Option Link → Option Link) (events : List Event) → links None ≡ None
    → let further = map (further_event links lines (length before)) in task_events options (before ++ bytes) (further events) ≡ further (task_events options bytes events)

-- Bytes behind the lines of events do nothing
abbrev pub BytesBehindDoNothing : Type 0
BytesBehindDoNothing =
    (options : ParseOptions) (bytes behind : List ℕ) (events : List Event) → end_line bytes ≡ true → AllByRecursion (λ e. e.point.index ≤ length bytes) events
    → task_events options (bytes ++ behind) events ≡ task_events options bytes events

-- So checks are those of the parts
abbrev pub TasksOfParts : Type 0
TasksOfParts =
    (options : ParseOptions) (lines : ℕ) (first second : List ℕ) (links : Option Link → Option Link) (xs ys : List Event) → links None ≡ None → StandApart options.tab_size first xs ys
    → let further = map (further_event links lines (length first)) in
    task_events options (first ++ second) (xs ++ further ys) ≡ task_events options first xs ++ further (task_events options second ys)

-- and so is all that GFM adds, if the same footnotes are noted for both
abbrev pub GfmOfParts : Type 0
GfmOfParts =
    (noted : (label : List ℕ) → Bool) (options : ParseOptions) (lines : ℕ) (first second : List ℕ) (links : Option Link → Option Link) (xs ys : List Event) → links None ≡ None → StandApart options.tab_size first xs ys
    → let further = map (further_event links lines (length first)) in
    let with_gfm = with_gfm_by noted options in
    IsInOrder (first ++ second) (xs ++ further ys) → with_gfm (first ++ second) (xs ++ further ys) ≡ with_gfm first xs ++ further (with_gfm second ys)

-- ---- documents

-- At a rest the events of a document with what GFM adds are those of its parts, whatever labels are noted, and whatever are defined where definitions are on
abbrev pub GfmOfBoth : Type 0
GfmOfBoth =
    (options : ParseOptions) (defined noted : (label : List ℕ) → Bool) → AreDefinedIfOn defined options.constructs → (a b : List ℕ) → IsDocument (document options (a ++ b))
    → is_rest options a b ≡ true → IsOfBoth (gfm_events_by options defined noted) a b

-- So they are those of its sections, each read by itself
abbrev pub GfmOfSections : Type 0
GfmOfSections =
    (options : ParseOptions) (defined noted : (label : List ℕ) → Bool) → AreDefinedIfOn defined options.constructs → (sections : List (List ℕ))
    → IsDocument (document options (document_of sections)) → are_sections_by (is_rest options) sections ≡ true
    → gfm_events_by options defined noted (document_of sections) ≡ events_of_sections (gfm_events_by options defined noted) sections
