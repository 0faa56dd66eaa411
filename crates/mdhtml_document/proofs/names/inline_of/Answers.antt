use Rattle.std.proofs.Common.{sym}
use Rattle.mdhtml_document.specs.declared.names.Inline.TheVariants as inline
use Rattle.mdhtml_document.specs.Names.{inlines_by_name}
use Rattle.mdhtml_document.proofs.Named.{none-named}
use Rattle.mdhtml_document.proofs.names.inline_of.Goals as goal

pub returns-in_default : goal.returns-in_default
returns-in_default c =
    let n = c.in_default in
    sym (none-named inlines_by_name inline.Other c.args.name (n.not-LineEnding, (n.not-HardBreakEscape, (n.not-HardBreakTrailing, (n.not-Emphasis, (n.not-Strong, (n.not-GfmStrikethrough, (n.not-CodeText, (n.not-HtmlText, (n.not-Autolink, (n.not-GfmAutolinkLiteralWww, (n.not-GfmAutolinkLiteralEmail, (n.not-GfmAutolinkLiteralProtocol, (n.not-GfmAutolinkLiteralMailto, (n.not-GfmAutolinkLiteralXmpp, (n.not-Link, (n.not-Image, (n.not-GfmTaskListItemCheck, (n.not-GfmFootnoteCall, (n.not-Resource, (n.not-Reference, tt)))))))))))))))))))))
