use Rattle.mdblock_lines.proofs.containers.goes_on.Goals as goal

pub returns-in-Quote : goal.returns-in-Quote
returns-in-Quote c = λ list. rw c.in-Quote.is (c.quote_goes_on.ensures c.args.c.now.line c.args.number)

pub returns-in-Item : goal.returns-in-Item
returns-in-Item c = λ list. rw c.in-Item.is (c.item_goes_on.ensures list)

pub returns-in-Footnote : goal.returns-in-Footnote
returns-in-Footnote c = λ list. rw c.in-Footnote.is (c.footnote_goes_on.ensures c.args.c.now.line c.args.c.now.label c.args.number)
