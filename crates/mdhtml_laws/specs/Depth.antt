-- How deep elements are.
use Rattle.std.specs.Prelude.{ℕ, suc, ◌+◌, ◌-◌, ◌*◌, ◌≤◌, max, List, [], ◌∷◌, ◌++◌, Option}
use Rattle.markdown_base.specs.declared.configuration.CompileOptions.{CompileOptions}
use Rattle.markdown_base.specs.declared.event.Event.{Event}
use Rattle.markdown_base.specs.Events.{IsBalanced}
use Rattle.mddocument_link_targets.specs.declared.targets.Parts.{Parts}
use Rattle.mdhtml_depth.specs.Depth.{within}
use Rattle.mdhtml_document.specs.declared.shapes.Mode.TheVariants as mode
use Rattle.mdhtml_document.specs.Html.{Known, pieces, section, uncalled}
use Rattle.mdhtml_document.specs.Spans.{spans_of}
use Rattle.mdhtml_markup.specs.Pieces.{Close, Feed, Fresh, Kept, Open, Piece, Text, Void}

-- How many elements are open at most, by how many are open in front of pieces. One without a close tag is open for itself alone
abbrev pub deepest : (opened : ℕ) → List Piece → ℕ
deepest opened [] = opened
deepest opened (Open e attributes ∷ ps) = max opened (deepest (suc opened) ps)
deepest opened (Close e ∷ ps) = max opened (deepest (opened - 1) ps)
deepest opened (Void e attributes ∷ ps) = max (suc opened) (deepest opened ps)
deepest opened (Text t ∷ ps) = deepest opened ps
deepest opened (Kept h ∷ ps) = deepest opened ps
deepest opened (Feed ∷ ps) = deepest opened ps
deepest opened (Fresh ∷ ps) = deepest opened ps

-- Within a limit, elements are at most twice as deep, and six more: a list and its item are two; a table, its head, a row and a cell are four, and in a cell
-- stands inline text, in which the call of a footnote is two
abbrev pub HtmlIsShallow : Type 0
HtmlIsShallow =
    (limit : ℕ) (options : CompileOptions) (bytes : List ℕ) (known : Known) (tab : ℕ) (events : List Event) → IsBalanced events
    → deepest 0 (pieces options bytes known tab mode.Flow [] (spans_of (within limit 0 events))) ≤ 2 * limit + 6

-- Where nothing calls a footnote it is five more
abbrev pub HtmlWithoutCallsIsShallow : Type 0
HtmlWithoutCallsIsShallow =
    (limit : ℕ) (options : CompileOptions) (bytes : List ℕ) (lookup : (label : List ℕ) → Option Parts) (tab : ℕ) (events : List Event) → IsBalanced events
    → deepest 0 (pieces options bytes (uncalled lookup) tab mode.Flow [] (spans_of (within limit 0 events))) ≤ 2 * limit + 5

-- With the section of footnotes they are three more, as a note is in a section, a list and its item
abbrev pub HtmlWithNotesIsShallow : Type 0
HtmlWithNotesIsShallow =
    (limit : ℕ) (options : CompileOptions) (bytes : List ℕ) (known : Known) (tab : ℕ) (events : List Event) → IsBalanced events → let left = within limit 0 events in
    deepest 0 (pieces options bytes known tab mode.Flow [] (spans_of left) ++ section options bytes known tab left) ≤ 2 * limit + 9
