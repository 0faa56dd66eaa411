use Rattle.std.proofs.Common.{◌≡◌, ◌+◌, ◌-◌, ◌≤◌, ℕ, drop, take, ap, ◌∙◌, subst, arith}
use Rattle.mdblock_leaf_blocks.specs.LeafBlocks.{bytes_of}
use Rattle.mdblock_leaf_blocks.specs.LineKinds.{indent}
use Rattle.mdblock_containers.proofs.WritingLemmas.{columns_behind}
use Rattle.mdblock_definitions.specs.Cursor.{Goes, columns_left, left_at}
use Rattle.mdblock_definitions.specs.Definitions.{seats_of}
use Rattle.mdblock_definitions.proofs.MarksCursor.{further-written, goes-on, here-of, line-rest, line-text}
use Rattle.mdblock_definitions.proofs.MarksCosts.{leaf-pays}
use Rattle.mdblock_definitions.proofs.marks.write_further.Goals as goal

pub write_leaf-requires-2-clause-columns : goal.write_leaf-requires-2-clause-columns
write_leaf-requires-2-clause-columns g c =
    columns_behind c.args.tab c.args.bytes.now c.args.cursor.at.place c.in_ok-text.text.at.place c.args.size c.indent-white.result (c.args.size - c.indent-white.result) c.in_ok-text.ensures.place c.requires.columns
    (omega (arith, c.indent-white.ensures.within, c.front-part.ensures.len))

pub returns-clause-events : goal.returns-clause-events
returns-clause-events g c = λ stack xs cursor w held.
    let t = c.args.tab in
    let bytes = c.args.bytes.now in
    let n = c.indent-white.result in
    let small : n ≤ c.args.size = omega (arith, c.indent-white.ensures.within, c.front-part.ensures.len) in
    let front : n ≤ columns_left c.args.cursor.at.columns (drop c.args.cursor.row xs) = omega (arith, small, w) in
    let first = c.in_ok-text.ensures.goes stack xs cursor front in
    let is : n ≡ indent (bytes_of (seats_of (take c.args.size (left_at t bytes stack xs c.args.cursor)))) =
    c.indent-white.ensures.value
    ∙ ap indent (c.front-part.ensures.value ∙ ap (take c.args.size) c.behind.ensures.value ∙ line-text t bytes stack (drop c.args.cursor.row xs) c.args.cursor.at (here-of t bytes stack xs c.args.cursor cursor) c.args.size c.args.line.now w held) in
    further-written t bytes stack xs c.args.cursor c.in_ok-text.text cursor c.args.size n w small is first c.args.events.now.items c.write_leaf.new.events.items c.write_leaf-2.new.events.items
    (c.in_ok-text.ensures.events stack xs cursor front)
    (c.in_ok-end.ensures.events stack xs first.at (line-rest t bytes stack xs c.args.cursor c.in_ok-text.text n (c.args.size - n) c.in_ok-text.ensures.row c.in_ok-text.ensures.column (omega (arith, small, w))))

pub returns-clause-goes : goal.returns-clause-goes
returns-clause-goes g c = λ stack xs cursor w.
    let t = c.args.tab in
    let bytes = c.args.bytes.now in
    let n = c.indent-white.result in
    let small : n ≤ c.args.size = omega (arith, c.indent-white.ensures.within, c.front-part.ensures.len) in
    let sum : n + (c.args.size - n) ≡ c.args.size = omega (arith, small) in
    let first = c.in_ok-text.ensures.goes stack xs cursor (omega (arith, small, w)) in
    let last = c.in_ok-end.ensures.goes stack xs first.at (line-rest t bytes stack xs c.args.cursor c.in_ok-text.text n (c.args.size - n) c.in_ok-text.ensures.row c.in_ok-text.ensures.column (omega (arith, small, w))) in
    subst (λ (k : ℕ). Goes t bytes stack xs c.args.cursor k c.in_ok-end.end) sum (goes-on t bytes stack xs c.args.cursor c.in_ok-text.text c.in_ok-end.end n (c.args.size - n) first last)

pub returns-clause-paid : goal.returns-clause-paid
returns-clause-paid g c = λ xs w.
    let small : c.indent-white.result ≤ c.args.size = omega (arith, c.indent-white.ensures.within, c.front-part.ensures.len) in
    leaf-pays xs c.args.cursor c.in_ok-end.end c.args.size (c.in_ok-end.ensures.row ∙ c.in_ok-text.ensures.row) (omega (arith, c.in_ok-end.ensures.column, c.in_ok-text.ensures.column, small)) w

pub returns-clause-turns : goal.returns-clause-turns
returns-clause-turns g c = omega (arith, c.indent-white.ensures.turns, c.indent-white.ensures.within, c.front-part.ensures.len, c.write_leaf.ensures.turns, c.write_leaf-2.ensures.turns)

pub returns-in_err-text-clause-turns : goal.returns-in_err-text-clause-turns
returns-in_err-text-clause-turns g c = omega (arith, c.indent-white.ensures.turns, c.indent-white.ensures.within, c.front-part.ensures.len, c.write_leaf.ensures.turns)

pub returns-in_err-end-clause-turns : goal.returns-in_err-end-clause-turns
returns-in_err-end-clause-turns g c = omega (arith, c.indent-white.ensures.turns, c.indent-white.ensures.within, c.front-part.ensures.len, c.write_leaf.ensures.turns, c.write_leaf-2.ensures.turns)
