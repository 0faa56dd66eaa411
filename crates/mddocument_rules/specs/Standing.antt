-- What may stand in what, by the events of a document (CommonMark 0.31, 3.1, 5 and 6; GFM 0.29, 6.5).
use Rattle.std.specs.Prelude.{◌&&◌, ◌||◌, not, Bool, true, false, cond, List, [], ◌∷◌, drop}
use Rattle.markdown_base.specs.declared.event.Event.{Event}
use Rattle.markdown_base.specs.declared.event.Name.{Name}
use Rattle.markdown_base.specs.declared.event.Name.TheVariants as name
use Rattle.markdown_base.specs.Events.{is_enter, same_name}
use Rattle.markdown_edits.specs.SpanWalks.{is_wanted}
use Rattle.mdblock_containers.specs.Lists.{block_names, item_names, list_names}

-- Each span of events may stand in the spans around it, of which the innermost comes first
abbrev pub all_stand : (may : (around : List Name) → Name → Bool) → (around : List Name) → List Event → Bool
all_stand may around [] = true
all_stand may around (e ∷ es) = cond (is_enter e.kind) (may around e.name && all_stand may (e.name ∷ around) es) (all_stand may (drop 1 around) es)

-- the innermost span has one of these names
abbrev pub is_in : List Name → (around : List Name) → Bool
is_in names [] = false
is_in names (n ∷ around) = is_wanted names n

-- no span is around
abbrev pub is_top : (around : List Name) → Bool
is_top [] = true
is_top (n ∷ around) = false

-- what is inline text alone (6), with strikethrough (GFM, 6.5); and the spans in which it stands, with those of cells (GFM, 4.10)
abbrev pub inline_names : List Name
inline_names = name.Autolink ∷ name.CodeText ∷ name.Emphasis ∷ name.Strong ∷ name.GfmStrikethrough ∷ name.Link ∷ name.Image ∷ name.HtmlText ∷ name.HardBreakEscape ∷ name.HardBreakTrailing ∷ []

abbrev pub text_names : List Name
text_names = name.Paragraph ∷ name.HeadingAtxText ∷ name.HeadingSetextText ∷ name.EmphasisText ∷ name.StrongText ∷ name.GfmStrikethroughText ∷ name.LabelText ∷ name.GfmTableCellText ∷ []

-- what stands between blocks, items and lines
abbrev pub between_names : List Name
between_names = name.BlankLineEnding ∷ name.LineEnding ∷ name.SpaceOrTab ∷ name.BlockQuotePrefix ∷ []

-- "Blocks can contain other blocks" in a block quote or a list item alone, or stand in the document itself (5); and in a footnote definition
abbrev pub holds_blocks : (around : List Name) → Bool
holds_blocks around = is_top around || is_in (name.BlockQuote ∷ name.ListItem ∷ name.GfmFootnoteDefinition ∷ []) around

-- Items stand directly in lists, and nothing else does but what is between items; blocks in the document, a quote, an item or a footnote definition; and inline text in texts
abbrev pub may_stand : (around : List Name) → Name → Bool
may_stand around n =
    cond (is_wanted item_names n) (is_in list_names around)
    (cond (is_wanted block_names n) (holds_blocks around)
    (cond (is_wanted inline_names n) (is_in text_names around)
    (not (is_in list_names around) || is_wanted between_names n)))

-- "Links may not contain other links, at any level of nesting" (6.3). Images may, and a link may contain images
abbrev pub is_outside_links : (around : List Name) → Name → Bool
is_outside_links around n = not (same_name n name.Link && is_wanted around name.Link)
