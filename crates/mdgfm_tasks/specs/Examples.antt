-- The events of some lines with their checks, on each side of each rule.
use Rattle.std.specs.Prelude.{ℕ, ◌+◌, List, [], ◌∷◌, ◌++◌, codes, map}
use Rattle.markdown_base.specs.declared.event.Event.{Event}
use Rattle.markdown_base.specs.declared.event.Kind.TheVariants.{Enter, Exit}
use Rattle.markdown_base.specs.declared.event.Name.{Name}
use Rattle.markdown_base.specs.declared.event.Name.TheVariants.{BlankLineEnding, BlockQuote, BlockQuoteMarker, BlockQuotePrefix, Data, Definition, Emphasis, GfmTaskListItemCheck, GfmTaskListItemMarker, GfmTaskListItemValueChecked, GfmTaskListItemValueUnchecked, HeadingSetext, LineEnding, Link, ListItem, ListItemMarker, ListItemPrefix, ListUnordered, Paragraph, SpaceOrTab}
use Rattle.markdown_base.specs.Virtual.{point}
use Rattle.mdgfm_events.specs.Places.{event}
use Rattle.mdgfm_tasks.specs.declared.awaited.Awaited.TheVariants.{Nothing}
use Rattle.mdgfm_tasks.specs.TaskEvents.{events_with}

-- ---- events, in one line

abbrev pub leaf : Name → (from to : ℕ) → List Event
leaf name i j = event Enter name (point 1 (i + 1) i 0) ∷ event Exit name (point 1 (j + 1) j 0) ∷ []

abbrev pub span : Name → (from to : ℕ) → List Event → List Event
span name i j es = event Enter name (point 1 (i + 1) i 0) ∷ (es ++ event Exit name (point 1 (j + 1) j 0) ∷ [])

-- brackets and one byte between them, as data; and as a check, with white space or a letter in it
abbrev pub brackets : (from : ℕ) → List Event
brackets i = leaf Data i (i + 1) ++ (leaf Data (i + 1) (i + 2) ++ leaf Data (i + 2) (i + 3))

abbrev pub check : Name → (from : ℕ) → List Event
check name i = span GfmTaskListItemCheck i (i + 3) (leaf GfmTaskListItemMarker i (i + 1) ++ (leaf name (i + 1) (i + 2) ++ leaf GfmTaskListItemMarker (i + 2) (i + 3)))

abbrev pub checked : (from : ℕ) → List Event
checked = check GfmTaskListItemValueChecked

abbrev pub unchecked : (from : ℕ) → List Event
unchecked = check GfmTaskListItemValueUnchecked

-- a list with one item, which begins at an index, and its prefix
abbrev pub item : (from to : ℕ) → List Event → List Event
item i j es = span ListUnordered i j (span ListItem i j (span ListItemPrefix i (i + 2) (leaf ListItemMarker i (i + 1) ++ leaf SpaceOrTab (i + 1) (i + 2)) ++ es))

-- an item at the front of a line, with a paragraph
abbrev pub task : (to : ℕ) → List Event → List Event
task j es = item 0 j (span Paragraph 2 j es)

-- the events of a line, with its checks
abbrev pub with_its : List ℕ → List Event → List Event
with_its bytes es = events_with 4 bytes 0 Nothing es

-- lines, their events, and their events with checks
abbrev pub Lines : Type 0
Lines = List (List ℕ × List Event × List Event)

-- a line without a check
abbrev pub none : List ℕ → List Event → List ℕ × List Event × List Event
none bytes es = (bytes, es, es)

abbrev pub lines : Lines
lines =
    -- markers, and what is behind them
    (codes "- [ ] a", task 7 (brackets 2 ++ leaf Data 5 7), task 7 (unchecked 2 ++ leaf Data 5 7)) ∷
    (codes "- [x] a", task 7 (brackets 2 ++ leaf Data 5 7), task 7 (checked 2 ++ leaf Data 5 7)) ∷
    (codes "- [X] a", task 7 (brackets 2 ++ leaf Data 5 7), task 7 (checked 2 ++ leaf Data 5 7)) ∷
    none (codes "- [y] a") (task 7 (brackets 2 ++ leaf Data 5 7)) ∷
    none (codes "- [x]a") (task 6 (brackets 2 ++ leaf Data 5 6)) ∷
    none (codes "- [x] ") (task 6 (brackets 2 ++ leaf SpaceOrTab 5 6)) ∷
    none (codes "- [x]\nab") (task 8 (brackets 2 ++ (leaf LineEnding 5 6 ++ leaf Data 6 8))) ∷
    (codes "- [x] *b*", task 9 (brackets 2 ++ (leaf Data 5 6 ++ span Emphasis 6 9 (leaf Data 7 8))), task 9 (checked 2 ++ (leaf Data 5 6 ++ span Emphasis 6 9 (leaf Data 7 8)))) ∷
    -- data in other parts, a link in its place, and one that is longer
    (codes "- [x] a", task 7 (leaf Data 2 7), task 7 (checked 2 ++ leaf Data 5 7)) ∷
    (codes "- [x] a", task 7 (leaf Data 2 4 ++ leaf Data 4 7), task 7 (checked 2 ++ leaf Data 5 7)) ∷
    (codes "- [x] a", task 7 (span Link 2 5 (leaf Data 3 4) ++ leaf Data 5 7), task 7 (checked 2 ++ leaf Data 5 7)) ∷
    none (codes "- [x] a") (task 7 (span Link 2 7 (leaf Data 3 4))) ∷
    none (codes "- [x](a) b") (task 10 (span Link 2 8 (leaf Data 3 4) ++ leaf Data 8 10)) ∷
    none (codes "- [x] a") (task 7 (leaf Data 2 3 ++ (leaf Emphasis 3 4 ++ leaf Data 4 7))) ∷
    -- what comes before: white space, a blank line, a definition, the prefix of a quote
    (codes "-  [x] a", item 0 8 (span Paragraph 2 8 (leaf SpaceOrTab 2 3 ++ (brackets 3 ++ leaf Data 6 8))), item 0 8 (span Paragraph 2 8 (leaf SpaceOrTab 2 3 ++ (checked 3 ++ leaf Data 6 8)))) ∷ (
      codes "- a>[x] b",
      item 0 9 (leaf BlankLineEnding 2 2 ++ (span Definition 2 3 (leaf Data 2 3) ++ (span BlockQuotePrefix 3 4 (leaf BlockQuoteMarker 3 4) ++ span Paragraph 4 9 (brackets 4 ++ leaf Data 7 9)))),
      item 0 9 (leaf BlankLineEnding 2 2 ++ (span Definition 2 3 (leaf Data 2 3) ++ (span BlockQuotePrefix 3 4 (leaf BlockQuoteMarker 3 4) ++ span Paragraph 4 9 (checked 4 ++ leaf Data 7 9)))),
    ) ∷
    -- an item in an item, a quote in one, a heading, a second paragraph, none in a list
    (codes "- - [x] a", item 0 9 (item 2 9 (span Paragraph 4 9 (brackets 4 ++ leaf Data 7 9))), item 0 9 (item 2 9 (span Paragraph 4 9 (checked 4 ++ leaf Data 7 9)))) ∷
    none (codes "- >[x] b") (item 0 8 (span BlockQuote 2 8 (span BlockQuotePrefix 2 3 (leaf BlockQuoteMarker 2 3) ++ span Paragraph 3 8 (brackets 3 ++ leaf Data 6 8)))) ∷
    none (codes "- [x] a") (item 0 7 (span HeadingSetext 2 7 (brackets 2 ++ leaf Data 5 7))) ∷
    none (codes "- a[x] b") (item 0 8 (span Paragraph 2 3 (leaf Data 2 3) ++ span Paragraph 3 8 (brackets 3 ++ leaf Data 6 8))) ∷
    none (codes "- a[x] b") (item 0 8 (span Paragraph 2 8 (leaf Data 2 3 ++ (brackets 3 ++ leaf Data 6 8)))) ∷
    none (codes "[x] a") (span Paragraph 0 5 (brackets 0 ++ leaf Data 3 5)) ∷
    []

abbrev pub lines_with : Lines → List (List Event)
lines_with = map (λ l. with_its l.0 l.1)

abbrev pub lines_told : Lines → List (List Event)
lines_told = map (λ l. l.2)
