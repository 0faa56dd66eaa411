-- HTML of events that stand further on, and of events before other bytes: it depends on places by the bytes there alone.
use Rattle.std.specs.List.{AllByRecursion}
use Rattle.std.specs.Prelude.{◌≡◌, ◌≤◌, ◌<◌, ◌||◌, ◌++◌, ℕ, Bool, true, List, Option, length, map}
use Rattle.markdown_base.specs.declared.configuration.CompileOptions.{CompileOptions}
use Rattle.markdown_base.specs.declared.event.Event.{Event}
use Rattle.markdown_base.specs.declared.event.Link.{Link}
use Rattle.markdown_base.specs.declared.event.Name.{Name}
use Rattle.markdown_base.specs.declared.event.Name.TheVariants as name
use Rattle.markdown_base.specs.Events.{IsBalanced, same_name}
use Rattle.mddocument_link_targets.specs.declared.targets.Parts.{Parts}
use Rattle.mddocument_link_targets.specs.Spans.{enters}
use Rattle.mdgfm_literals.specs.Laws.{end_line, further_event}
use Rattle.mdhtml_document.specs.Html.{html_by, uncalled}

-- the value of a character reference has a byte before it: `&`, `#`, `x` or `X`
abbrev pub IsMarked : Event → Type 0
IsMarked e = enters name.CharacterReferenceValue e ≡ true → 1 ≤ e.point.index

-- the byte at such an event is read: that of an underline, and the digits of a list's number
abbrev pub is_read : Name → Bool
is_read n = same_name n name.HeadingSetextUnderlineSequence || same_name n name.ListItemValue

-- an event stands in bytes, and where a byte is read, there is one
pub record StandsIn (bytes : List ℕ) (e : Event) : Type 0 where
  pub within : e.point.index ≤ length bytes
  pub reads : is_read e.name ≡ true → e.point.index < length bytes
  pub marked : IsMarked e

-- Behind other bytes events have the same HTML, further on, by what labels are defined as in all
abbrev pub HtmlMoves : Type 0
HtmlMoves =
    (options : CompileOptions) (lookup : (label : List ℕ) → Option Parts) (tab lines : ℕ) (before bytes : List ℕ) (links : Option Link → Option Link) (events : List Event)
    → IsBalanced events → AllByRecursion IsMarked events
    → html_by options (before ++ bytes) (uncalled lookup) tab (map (further_event links lines (length before)) events) ≡ html_by options bytes (uncalled lookup) tab events

-- Bytes behind the lines of events do nothing
abbrev pub BytesBehindDoNothing : Type 0
BytesBehindDoNothing =
    (options : CompileOptions) (lookup : (label : List ℕ) → Option Parts) (tab : ℕ) (bytes behind : List ℕ) (events : List Event)
    → end_line bytes ≡ true → IsBalanced events → AllByRecursion (StandsIn bytes) events
    → html_by options (bytes ++ behind) (uncalled lookup) tab events ≡ html_by options bytes (uncalled lookup) tab events

-- So the HTML of a document is that of its sections: of events in its first lines, and of those of the lines behind, each read alone, by what labels are
-- defined as in all
abbrev pub HtmlOfSections : Type 0
HtmlOfSections =
    (options : CompileOptions) (lookup : (label : List ℕ) → Option Parts) (tab lines : ℕ) (first second : List ℕ) (links : Option Link → Option Link) (xs ys : List Event)
    → end_line first ≡ true → IsBalanced xs → IsBalanced ys → AllByRecursion (StandsIn first) xs → AllByRecursion IsMarked ys
    → html_by options (first ++ second) (uncalled lookup) tab (xs ++ map (further_event links lines (length first)) ys)
    ≡ html_by options first (uncalled lookup) tab xs ++ html_by options second (uncalled lookup) tab ys
