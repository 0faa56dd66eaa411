use Rattle.std.proofs.Common.{sym}
use Rattle.mdhtml_document.specs.declared.names.Block.TheVariants as block
use Rattle.mdhtml_document.specs.Names.{blocks_by_name}
use Rattle.mdhtml_document.proofs.Named.{none-named}
use Rattle.mdhtml_document.proofs.names.block_of.Goals as goal

pub returns-in_default : goal.returns-in_default
returns-in_default c =
    let n = c.in_default in
    sym (none-named blocks_by_name block.Other c.args.name (n.not-Paragraph, (n.not-HeadingAtx, (n.not-HeadingSetext, (n.not-HeadingAtxText, (n.not-HeadingSetextText, (n.not-BlockQuote, (n.not-ListUnordered, (n.not-ListOrdered, (n.not-ListItem, (n.not-CodeFenced, (n.not-CodeIndented, (n.not-HtmlFlow, (n.not-ThematicBreak, (n.not-GfmTable, (n.not-GfmTableHead, (n.not-GfmTableBody, (n.not-GfmTableRow, (n.not-GfmTableCell, (n.not-GfmTableCellText, tt))))))))))))))))))))
