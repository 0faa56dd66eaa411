-- What spans are written as, by their names.
use Rattle.std.specs.Prelude.{cond, List, [], ◌∷◌}
use Rattle.markdown_base.specs.declared.event.Name.{Name}
use Rattle.markdown_base.specs.declared.event.Name.TheVariants as name
use Rattle.markdown_base.specs.Events.{same_name}
use Rattle.mdhtml_document.specs.declared.names.Block.{Block}
use Rattle.mdhtml_document.specs.declared.names.Block.TheVariants as block
use Rattle.mdhtml_document.specs.declared.names.Inline.{Inline}
use Rattle.mdhtml_document.specs.declared.names.Inline.TheVariants as inline

-- what stands beside a name, or else this
abbrev pub named : {A : Type 0} → List (Name × A) → (other : A) → Name → A
named [] other n = other
named (p ∷ ps) other n = cond (same_name n p.0) p.1 (named ps other n)

-- blocks, and parts of them
abbrev pub blocks_by_name : List (Name × Block)
blocks_by_name =
    (name.Paragraph, block.Paragraph)
    ∷ (name.HeadingAtx, block.HeadingAtx)
    ∷ (name.HeadingSetext, block.HeadingSetext)
    ∷ (name.HeadingAtxText, block.HeadingText)
    ∷ (name.HeadingSetextText, block.HeadingText)
    ∷ (name.BlockQuote, block.Quote)
    ∷ (name.ListUnordered, block.Bullets)
    ∷ (name.ListOrdered, block.Numbers)
    ∷ (name.ListItem, block.Item)
    ∷ (name.CodeFenced, block.Fenced)
    ∷ (name.CodeIndented, block.Indented)
    ∷ (name.HtmlFlow, block.Html)
    ∷ (name.ThematicBreak, block.Rule)
    ∷ (name.GfmTable, block.Table)
    ∷ (name.GfmTableHead, block.TableHead)
    ∷ (name.GfmTableBody, block.TableBody)
    ∷ (name.GfmTableRow, block.TableRow)
    ∷ (name.GfmTableCell, block.TableCell)
    ∷ (name.GfmTableCellText, block.HeadingText)
    ∷ []

abbrev pub block_of : Name → Block
block_of n = named blocks_by_name block.Other n

-- spans of inline text
abbrev pub inlines_by_name : List (Name × Inline)
inlines_by_name =
    (name.LineEnding, inline.Ending)
    ∷ (name.HardBreakEscape, inline.Break)
    ∷ (name.HardBreakTrailing, inline.Break)
    ∷ (name.Emphasis, inline.Emphasis)
    ∷ (name.Strong, inline.Strong)
    ∷ (name.GfmStrikethrough, inline.Struck)
    ∷ (name.CodeText, inline.Code)
    ∷ (name.HtmlText, inline.Html)
    ∷ (name.Autolink, inline.Autolink)
    ∷ (name.GfmAutolinkLiteralWww, inline.Www)
    ∷ (name.GfmAutolinkLiteralEmail, inline.Email)
    ∷ (name.GfmAutolinkLiteralProtocol, inline.Address)
    ∷ (name.GfmAutolinkLiteralMailto, inline.Address)
    ∷ (name.GfmAutolinkLiteralXmpp, inline.Address)
    ∷ (name.Link, inline.Link)
    ∷ (name.Image, inline.Image)
    ∷ (name.GfmTaskListItemCheck, inline.Check)
    ∷ (name.GfmFootnoteCall, inline.Call)
    ∷ (name.Resource, inline.Tail)
    ∷ (name.Reference, inline.Tail)
    ∷ []

abbrev pub inline_of : Name → Inline
inline_of n = named inlines_by_name inline.Other n
