use Rattle.std.proofs.Common.{◌∙◌, ap}
use Rattle.markdown_base.specs.Virtual.{point}
use Rattle.mdblock_containers.specs.declared.spans.RowAt.{RowAt}
use Rattle.mdblock_definitions.proofs.MarksCursor.{next-same}
use Rattle.mdblock_definitions.proofs.MarksStrings.{feed-next, feed-place, feed-written}
use Rattle.mdblock_definitions.proofs.marks.write_feed.Goals as goal

pub returns-clause-events : goal.returns-clause-events
returns-clause-events c = λ t bytes stack h.
    let xs = c.args.rows.now in
    let n = feed-next t bytes stack xs c.args.cursor h in
    let same = next-same t bytes stack xs c.args.cursor n c.index-rows-row.result c.index-rows-row.is in
    let q = c.start_of-behind.ensures ∙ ap (λ (y : RowAt). point y.span.number 1 y.span.start 0) same in
    feed-written t bytes stack xs c.args.cursor n c.args.events.now.items c.write_ending.new.events.items c.start_of-behind.result q c.in_ok-write_ending.ensures

pub returns-clause-place : goal.returns-clause-place
returns-clause-place c = λ t bytes stack h.
    let xs = c.args.rows.now in
    let n = feed-next t bytes stack xs c.args.cursor h in
    let same = next-same t bytes stack xs c.args.cursor n c.index-rows-row.result c.index-rows-row.is in
    let q = c.start_of-behind.ensures ∙ ap (λ (y : RowAt). point y.span.number 1 y.span.start 0) same in
    feed-place t bytes stack xs c.args.cursor n c.start_of-behind.result q
