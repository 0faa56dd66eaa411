use Rattle.std.proofs.Common.{◌≡◌, ◌≤◌, ◌-◌, ◌+◌, ◌++◌, ℕ, true, map, take, sym, ap, ◌∙◌, subst, arith}
use Rattle.mdblock_containers.specs.Views.{open_of}
use Rattle.std.proofs.lemmas.List.{append-nil}
use Rattle.mdblock_containers.specs.SeatPlaces.{events_of}
use Rattle.mdblock_definitions.specs.Cursor.{Goes, left_at}
use Rattle.mdblock_definitions.specs.Definitions.{line_marks, string, string_lines}
use Rattle.mdblock_definitions.proofs.MarksCursor.{goes-nowhere, goes-on, next-within}
use Rattle.mdblock_definitions.proofs.MarksStrings.{before-feed, feed-next, string-written, whole-written}
use Rattle.mdblock_definitions.proofs.marks.write_string.Goals as goal

pub returns-then-size-eq0-clause-events : goal.returns-then-size-eq0-clause-events
returns-then-size-eq0-clause-events g c =
    let t = c.args.tab in
    let bytes = c.args.bytes.now in
    let stack = map open_of c.args.stack.now in
    let xs = c.args.rows.now in
    let none : c.args.size ≡ 0 = omega (arith, c.if-size-eq0.true) in
    sym (append-nil c.args.events.now.items) ∙ ap (λ n. c.args.events.now.items ++ events_of (string bytes c.args.name (take n (left_at t bytes stack xs c.args.cursor)))) (sym none)

pub returns-then-size-eq0-clause-goes : goal.returns-then-size-eq0-clause-goes
returns-then-size-eq0-clause-goes g c =
    let t = c.args.tab in
    let bytes = c.args.bytes.now in
    let stack = map open_of c.args.stack.now in
    let xs = c.args.rows.now in
    let none : c.args.size ≡ 0 = omega (arith, c.if-size-eq0.true) in
    subst (λ (n : ℕ). Goes t bytes stack xs c.args.cursor n c.args.cursor) (sym none) (goes-nowhere t bytes stack xs c.args.cursor c.requires.cursor)

pub write_lines-requires : goal.write_lines-requires
write_lines-requires g c = record { cursor = c.requires.cursor; size = c.requires.size; some = omega (arith, c.if-size-eq0.false) }

pub returns-then-left-eq0-clause-events : goal.returns-then-left-eq0-clause-events
returns-then-left-eq0-clause-events g c =
    let t = c.args.tab in
    let bytes = c.args.bytes.now in
    let stack = map open_of c.args.stack.now in
    let xs = c.args.rows.now in
    let some : 1 ≤ c.args.size = omega (arith, c.if-size-eq0.false) in
    let ends = c.in_ok-lines.ensures.ends in
    let none : c.in_ok-lines.lines.left ≡ 0 = omega (arith, c.if-left-eq0.true) in
    let whole : c.args.size - c.in_ok-lines.lines.left ≡ c.args.size = omega (arith, none) in
    let goes = subst (λ (n : ℕ). Goes t bytes stack xs c.args.cursor n c.in_ok-lines.lines.cursor) whole ends.goes in
    let lines = c.in_ok-lines.ensures.events ∙ ap (λ n. c.enter.new.events.items ++ events_of (line_marks bytes true (string_lines (take n (left_at t bytes stack xs c.args.cursor))))) whole in
    whole-written t bytes stack xs c.args.cursor c.in_ok-lines.lines.cursor c.args.size c.args.name c.requires.cursor goes some c.requires.size (ends.whole none) c.args.events.now.items _ _ _ c.in_ok-enter.ensures lines c.in_ok-exit.ensures

pub returns-then-left-eq0-clause-goes : goal.returns-then-left-eq0-clause-goes
returns-then-left-eq0-clause-goes g c =
    let t = c.args.tab in
    let bytes = c.args.bytes.now in
    let stack = map open_of c.args.stack.now in
    let xs = c.args.rows.now in
    let whole : c.args.size - c.in_ok-lines.lines.left ≡ c.args.size = omega (arith, c.if-left-eq0.true) in
    subst (λ (n : ℕ). Goes t bytes stack xs c.args.cursor n c.in_ok-lines.lines.cursor) whole c.in_ok-lines.ensures.ends.goes

pub write_feed-requires : goal.write_feed-requires
write_feed-requires g c =
    let t = c.args.tab in
    let bytes = c.args.bytes.now in
    let stack = map open_of c.args.stack.now in
    let xs = c.args.rows.now in
    let some : 1 ≤ c.args.size = omega (arith, c.if-size-eq0.false) in
    let ends = c.in_ok-lines.ensures.ends in
    let one : c.in_ok-lines.lines.left ≡ 1 = omega (arith, c.if-left-eq0.false, ends.few) in
    let feed = before-feed t bytes stack xs c.args.cursor c.args.size c.in_ok-lines.lines ends one some c.requires.size in
    record { row = next-within t bytes stack xs c.in_ok-lines.lines.cursor (feed-next t bytes stack xs c.in_ok-lines.lines.cursor feed) }

pub write_prefixes-requires : goal.write_prefixes-requires
write_prefixes-requires g c =
    let t = c.args.tab in
    let bytes = c.args.bytes.now in
    let stack = map open_of c.args.stack.now in
    let xs = c.args.rows.now in
    let some : 1 ≤ c.args.size = omega (arith, c.if-size-eq0.false) in
    let ends = c.in_ok-lines.ensures.ends in
    let one : c.in_ok-lines.lines.left ≡ 1 = omega (arith, c.if-left-eq0.false, ends.few) in
    let feed = before-feed t bytes stack xs c.args.cursor c.args.size c.in_ok-lines.lines ends one some c.requires.size in
    record { cursor = feed.cursor; end = feed.end; more = feed.more }

pub returns-clause-events : goal.returns-clause-events
returns-clause-events g c =
    let t = c.args.tab in
    let bytes = c.args.bytes.now in
    let stack = map open_of c.args.stack.now in
    let xs = c.args.rows.now in
    let some : 1 ≤ c.args.size = omega (arith, c.if-size-eq0.false) in
    let ends = c.in_ok-lines.ensures.ends in
    let one : c.in_ok-lines.lines.left ≡ 1 = omega (arith, c.if-left-eq0.false, ends.few) in
    let feed = before-feed t bytes stack xs c.args.cursor c.args.size c.in_ok-lines.lines ends one some c.requires.size in
    let less : c.args.size - c.in_ok-lines.lines.left ≡ c.args.size - 1 = omega (arith, one) in
    let goes = subst (λ (n : ℕ). Goes t bytes stack xs c.args.cursor n c.in_ok-lines.lines.cursor) less ends.goes in
    let lines = c.in_ok-lines.ensures.events ∙ ap (λ n. c.enter.new.events.items ++ events_of (line_marks bytes true (string_lines (take n (left_at t bytes stack xs c.args.cursor))))) less in
    string-written t bytes stack xs c.args.cursor c.in_ok-lines.lines.cursor c.args.size c.args.name c.requires.cursor goes some c.requires.size feed c.in_ok-behind.behind (c.in_ok-behind.ensures.place t bytes stack feed)
    c.args.events.now.items _ _ _ _ _ c.in_ok-enter.ensures lines (c.in_ok-behind.ensures.events t bytes stack feed) c.in_ok-exit-2.ensures c.in_ok-next.ensures.events

pub returns-clause-goes : goal.returns-clause-goes
returns-clause-goes g c =
    let t = c.args.tab in
    let bytes = c.args.bytes.now in
    let stack = map open_of c.args.stack.now in
    let xs = c.args.rows.now in
    let some : 1 ≤ c.args.size = omega (arith, c.if-size-eq0.false) in
    let ends = c.in_ok-lines.ensures.ends in
    let one : c.in_ok-lines.lines.left ≡ 1 = omega (arith, c.if-left-eq0.false, ends.few) in
    let feed = before-feed t bytes stack xs c.args.cursor c.args.size c.in_ok-lines.lines ends one some c.requires.size in
    let sum : c.args.size - c.in_ok-lines.lines.left + 1 ≡ c.args.size = omega (arith, one, some) in
    subst (λ (n : ℕ). Goes t bytes stack xs c.args.cursor n c.in_ok-next.next) sum (goes-on t bytes stack xs c.args.cursor c.in_ok-lines.lines.cursor c.in_ok-next.next (c.args.size - c.in_ok-lines.lines.left) 1 ends.goes c.in_ok-next.ensures.goes)
