use Rattle.std.proofs.Common.{◌≡◌, ◌≤◌, ◌+◌, ◌-◌, ℕ, List, true, drop, length, map, ap, subst, arith, length-drop}
use Rattle.mdblock_containers.specs.Views.{open_of}
use Rattle.mdblock_definitions.specs.Cursor.{Goes, left_at}
use Rattle.mdblock_definitions.specs.Definitions.{Place}
use Rattle.mdblock_definitions.proofs.MarksCursor.{behind-line, goes-nowhere, has-columns, has-room, here-of, line-full, line-more, lines-next}
use Rattle.mdblock_definitions.proofs.MarksCosts.{leaf-fits}
use Rattle.mdblock_definitions.proofs.MarksStrings.{ends-here, ends-over, lines-end}
use Rattle.mdblock_definitions.proofs.marks.write_lines.Goals as goal

pub write_leaf-requires : goal.write_leaf-requires
write_leaf-requires g c =
    let t = c.args.tab in
    let bytes = c.args.bytes.now in
    let stack = map open_of c.args.stack.now in
    let xs = c.args.rows.now in
    let here = here-of t bytes stack xs c.args.cursor c.requires.cursor in
    let ys = drop c.args.cursor.row xs in
    let at = c.args.cursor.at in
    let k = c.first_in-columns.result in
    let fits = c.first_in-columns.ensures.fits in
    record { columns = has-columns t bytes stack ys at here k fits; room = has-room t bytes stack ys at here k fits }

pub returns-then-rest-le1-clause-events : goal.returns-then-rest-le1-clause-events
returns-then-rest-le1-clause-events g c =
    let t = c.args.tab in
    let bytes = c.args.bytes.now in
    let stack = map open_of c.args.stack.now in
    let xs = c.args.rows.now in
    let fits = c.first_in-columns.ensures.fits in
    lines-end t bytes stack xs c.args.cursor c.requires.cursor true c.args.size c.first_in-columns.result c.first_in-columns.ensures.few fits c.args.events.now.items _ (c.in_ok-end.ensures.events stack xs c.requires.cursor fits)

pub returns-then-rest-le1-clause-ends : goal.returns-then-rest-le1-clause-ends
returns-then-rest-le1-clause-ends g c =
    let t = c.args.tab in
    let bytes = c.args.bytes.now in
    let stack = map open_of c.args.stack.now in
    let xs = c.args.rows.now in
    let k = c.first_in-columns.result in
    let few = c.first_in-columns.ensures.few in
    let fits = c.first_in-columns.ensures.fits in
    let size = c.args.size in
    let same : k ≡ size - (size - k) = omega (arith, few) in
    let none : 0 ≡ size - size = omega arith in
    let begin = subst (λ (n : ℕ). Goes t bytes stack xs c.args.cursor n c.args.cursor) none (goes-nowhere t bytes stack xs c.args.cursor c.requires.cursor) in
    record {
      few = omega (arith, c.if-rest-le1.true);
      goes = subst (λ (n : ℕ). Goes t bytes stack xs c.args.cursor n c.in_ok-end.end) same (c.in_ok-end.ensures.goes stack xs c.requires.cursor fits);
      whole = λ left. ends-here t bytes stack xs c.args.cursor c.args.cursor size size k c.requires.cursor begin c.requires.some (omega arith) (omega (arith, left, few)) fits;
      feed = λ left. line-full t bytes stack xs c.args.cursor c.in_ok-end.end k c.requires.cursor (c.first_in-columns.ensures.full (omega (arith, left))) c.in_ok-end.ensures.row c.in_ok-end.ensures.column;
    }

pub write_line_ending-requires : goal.write_line_ending-requires
write_line_ending-requires g c =
    let t = c.args.tab in
    let bytes = c.args.bytes.now in
    let stack = map open_of c.args.stack.now in
    let xs = c.args.rows.now in
    let k = c.first_in-columns.result in
    let more : k + 2 ≤ c.args.size = omega (arith, c.if-rest-le1.false) in
    let f = c.in_ok-end.ensures.goes stack xs c.requires.cursor c.first_in-columns.ensures.fits in
    record {
      cursor = f.at;
      end = line-full t bytes stack xs c.args.cursor c.in_ok-end.end k c.requires.cursor (c.first_in-columns.ensures.full (omega (arith, more))) c.in_ok-end.ensures.row c.in_ok-end.ensures.column;
      more = line-more t bytes stack xs c.args.cursor c.in_ok-end.end k c.args.size f (omega (arith, more)) c.requires.size;
    }

pub write_further_lines-requires : goal.write_further_lines-requires
write_further_lines-requires g c =
    let t = c.args.tab in
    let bytes = c.args.bytes.now in
    let stack = map open_of c.args.stack.now in
    let xs = c.args.rows.now in
    let k = c.first_in-columns.result in
    let more : k + 2 ≤ c.args.size = omega (arith, c.if-rest-le1.false) in
    let f = c.in_ok-end.ensures.goes stack xs c.requires.cursor c.first_in-columns.ensures.fits in
    let h = c.in_ok-next.ensures.goes in
    record {
      cursor = h.at;
      size = omega (arith, more, c.requires.size, ap (λ (l : List Place). length l) (behind-line t bytes stack xs c.args.cursor c.in_ok-end.end c.in_ok-next.next k f h), length-drop (k + 1) (left_at t bytes stack xs c.args.cursor));
      some = omega (arith, more);
      line = c.in_ok-next.ensures.line;
    }

pub returns-clause-events : goal.returns-clause-events
returns-clause-events g c =
    let t = c.args.tab in
    let bytes = c.args.bytes.now in
    let stack = map open_of c.args.stack.now in
    let xs = c.args.rows.now in
    let k = c.first_in-columns.result in
    let more : k + 2 ≤ c.args.size = omega (arith, c.if-rest-le1.false) in
    let k_is = c.first_in-columns.ensures.full (omega (arith, more)) in
    let e = c.in_ok-end.end in
    let next = c.in_ok-next.next in
    let fits = c.first_in-columns.ensures.fits in
    let f = c.in_ok-end.ensures.goes stack xs c.requires.cursor fits in
    let h = c.in_ok-next.ensures.goes in
    let few = c.in_ok-last.ensures.ends.few in
    let left = c.in_ok-last.last.left in
    let size = c.args.size in
    lines-next t bytes stack xs c.args.cursor e next c.requires.cursor true (size - left) k (size - k - 1 - left) k_is (omega (arith, more, few)) (omega (arith, c.requires.size)) (omega (arith, more, few)) f h c.args.events.now.items _ _ _
    (c.in_ok-end.ensures.events stack xs c.requires.cursor fits) c.in_ok-next.ensures.events c.in_ok-last.ensures.events

pub returns-clause-ends : goal.returns-clause-ends
returns-clause-ends g c =
    let t = c.args.tab in
    let bytes = c.args.bytes.now in
    let stack = map open_of c.args.stack.now in
    let xs = c.args.rows.now in
    let k = c.first_in-columns.result in
    let more : k + 2 ≤ c.args.size = omega (arith, c.if-rest-le1.false) in
    let f = c.in_ok-end.ensures.goes stack xs c.requires.cursor c.first_in-columns.ensures.fits in
    ends-over t bytes stack xs c.args.cursor c.in_ok-end.end c.in_ok-next.next k (c.args.size - k - 1) c.args.size c.in_ok-last.last f c.in_ok-next.ensures.goes c.in_ok-last.ensures.ends (omega (arith, more)) (omega (arith, more))

pub returns-then-rest-le1-clause-paid : goal.returns-then-rest-le1-clause-paid
returns-then-rest-le1-clause-paid g c =
    let t = c.args.tab in
    let bytes = c.args.bytes.now in
    let stack = map open_of c.args.stack.now in
    let xs = c.args.rows.now in
    omega (arith, c.in_ok-end.ensures.paid xs c.first_in-columns.ensures.fits, c.write_leaf.ensures.turns)

pub returns-then-rest-le1-clause-turns : goal.returns-then-rest-le1-clause-turns
returns-then-rest-le1-clause-turns g c =
    let t = c.args.tab in
    let bytes = c.args.bytes.now in
    let stack = map open_of c.args.stack.now in
    let xs = c.args.rows.now in
    omega (arith, leaf-fits xs c.args.cursor c.first_in-columns.result c.first_in-columns.ensures.fits, c.write_leaf.ensures.turns)

pub returns-in_err-end-clause-turns : goal.returns-in_err-end-clause-turns
returns-in_err-end-clause-turns g c =
    let t = c.args.tab in
    let bytes = c.args.bytes.now in
    let stack = map open_of c.args.stack.now in
    let xs = c.args.rows.now in
    omega (arith, leaf-fits xs c.args.cursor c.first_in-columns.result c.first_in-columns.ensures.fits, c.write_leaf.ensures.turns)

pub returns-in_err-next-clause-turns : goal.returns-in_err-next-clause-turns
returns-in_err-next-clause-turns g c =
    let t = c.args.tab in
    let bytes = c.args.bytes.now in
    let stack = map open_of c.args.stack.now in
    let xs = c.args.rows.now in
    let pays = c.in_ok-end.ensures.paid xs c.first_in-columns.ensures.fits in
    omega (arith, pays, c.write_leaf.ensures.turns, c.write_line_ending.ensures.turns)

pub returns-in_err-last-clause-turns : goal.returns-in_err-last-clause-turns
returns-in_err-last-clause-turns g c =
    let t = c.args.tab in
    let bytes = c.args.bytes.now in
    let stack = map open_of c.args.stack.now in
    let xs = c.args.rows.now in
    let pays = c.in_ok-end.ensures.paid xs c.first_in-columns.ensures.fits in
    omega (arith, pays, c.write_leaf.ensures.turns, c.in_ok-next.ensures.paid, c.write_further_lines.ensures.turns)

pub returns-clause-paid : goal.returns-clause-paid
returns-clause-paid g c =
    let t = c.args.tab in
    let bytes = c.args.bytes.now in
    let stack = map open_of c.args.stack.now in
    let xs = c.args.rows.now in
    let pays = c.in_ok-end.ensures.paid xs c.first_in-columns.ensures.fits in
    omega (arith, pays, c.write_leaf.ensures.turns, c.in_ok-next.ensures.paid, c.in_ok-last.ensures.paid)

pub returns-clause-turns : goal.returns-clause-turns
returns-clause-turns g c =
    let t = c.args.tab in
    let bytes = c.args.bytes.now in
    let stack = map open_of c.args.stack.now in
    let xs = c.args.rows.now in
    let pays = c.in_ok-end.ensures.paid xs c.first_in-columns.ensures.fits in
    omega (arith, pays, c.write_leaf.ensures.turns, c.in_ok-next.ensures.paid, c.write_further_lines.ensures.turns)
