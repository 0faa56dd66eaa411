use Rattle.std.proofs.Common.{map}
use Rattle.mdblock_containers.specs.Views.{open_of}
use Rattle.mdblock_definitions.specs.Cursor.{IsBeforeFeed}
use Rattle.mdblock_definitions.proofs.MarksCursor.{next-of, next-within}
use Rattle.mdblock_definitions.proofs.MarksStrings.{ending-both}
use Rattle.mdblock_definitions.proofs.marks.write_line_ending.Goals as goal

pub write_feed-requires : goal.write_feed-requires
write_feed-requires g c =
    let t = c.args.tab in
    let bytes = c.args.bytes.now in
    let stack = map open_of c.args.stack.now in
    let xs = c.args.rows.now in
    record { row = next-within t bytes stack xs c.args.cursor (next-of t bytes stack xs c.args.cursor c.requires.cursor c.requires.end c.requires.more) }

pub returns-clause-events : goal.returns-clause-events
returns-clause-events g c =
    let t = c.args.tab in
    let bytes = c.args.bytes.now in
    let stack = map open_of c.args.stack.now in
    let xs = c.args.rows.now in
    let before : IsBeforeFeed t bytes stack xs c.args.cursor = record { cursor = c.requires.cursor; end = c.requires.end; more = c.requires.more } in
    ending-both t bytes stack xs c.args.cursor c.args.events.now.items _ _ (c.in_ok-write_feed.ensures.events t bytes stack before) c.in_ok-next.ensures.events
