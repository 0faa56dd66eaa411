use Rattle.std.proofs.Common.{◌≡◌, ◌≤◌, ◌+◌, ◌-◌, ◌++◌, ℕ, List, false, drop, length, map, take, refl, sym, ap, ◌∙◌, subst, arith, length-drop}
use Rattle.mdblock_containers.specs.SeatPlaces.{events_of}
use Rattle.mdblock_containers.specs.Views.{open_of}
use Rattle.mdblock_definitions.specs.Cursor.{Goes, IsHeld, left_at}
use Rattle.mdblock_definitions.specs.Definitions.{Place, line_marks, string_lines}
use Rattle.mdblock_definitions.proofs.MarksCursor.{behind-line, goes-nowhere, goes-on, has-columns, here-of, line-full, line-more, line-within, lines-next}
use Rattle.mdblock_definitions.proofs.MarksCosts.{leaf-fits}
use Rattle.mdblock_definitions.proofs.MarksStrings.{ends-here, lines-end}
use Rattle.mdblock_definitions.proofs.marks.write_further_lines.Goals as goal

pub loop-rest-init : goal.loop-rest-init
loop-rest-init g c =
    let t = c.args.tab in
    let bytes = c.args.bytes.now in
    let stack = map open_of c.args.stack.now in
    let xs = c.args.rows.now in
    let none : 0 ≡ c.args.size - c.args.size = omega arith in
    record {
      cursor = c.requires.cursor;
      left = c.requires.size;
      fewer = omega arith;
      some = c.requires.some;
      few = c.first_in-columns.ensures.few;
      fits = c.first_in-columns.ensures.fits;
      full = c.first_in-columns.ensures.full;
      held = c.requires.line;
      goes = subst (λ (n : ℕ). Goes t bytes stack xs c.args.cursor n c.args.cursor) none (goes-nowhere t bytes stack xs c.args.cursor c.requires.cursor);
      paid = omega arith;
      events = λ j w. refl;
    }

pub write_further-requires : goal.write_further-requires
write_further-requires g c =
    let t = c.args.tab in
    let bytes = c.args.bytes.now in
    let stack = map open_of c.args.stack.now in
    let xs = c.args.rows.now in
    let l = c.loop-rest in
    let i = c.loop-rest.invariant in
    let here = here-of t bytes stack xs l.here i.cursor in
    let held = subst (IsHeld t bytes (drop l.here.row xs)) (sym c.as_slice.ensures.value) i.held in
    record {
      columns = has-columns t bytes stack (drop l.here.row xs) l.here.at here l.columns i.fits;
      within = line-within t bytes stack (drop l.here.row xs) l.here.at here l.columns c.as_slice.result.now i.fits held;
    }

pub write_line_ending-requires : goal.write_line_ending-requires
write_line_ending-requires g c =
    let t = c.args.tab in
    let bytes = c.args.bytes.now in
    let stack = map open_of c.args.stack.now in
    let xs = c.args.rows.now in
    let l = c.loop-rest in
    let i = c.loop-rest.invariant in
    let f = c.in_ok-end.ensures.goes stack xs i.cursor i.fits in
    let more : l.columns + 2 ≤ l.rest = omega (arith, c.loop-rest-test.true) in
    record {
      cursor = f.at;
      end = line-full t bytes stack xs l.here c.in_ok-end.end l.columns i.cursor (i.full (omega (arith, more))) c.in_ok-end.ensures.row c.in_ok-end.ensures.column;
      more = line-more t bytes stack xs l.here c.in_ok-end.end l.columns l.rest f (omega (arith, more)) i.left;
    }

pub loop-rest-preserved : goal.loop-rest-preserved
loop-rest-preserved g c =
    let t = c.args.tab in
    let bytes = c.args.bytes.now in
    let stack = map open_of c.args.stack.now in
    let xs = c.args.rows.now in
    let l = c.loop-rest in
    let i = c.loop-rest.invariant in
    let end = c.in_ok-end.end in
    let next = c.in_ok-here.here in
    let f = c.in_ok-end.ensures.goes stack xs i.cursor i.fits in
    let h = c.in_ok-here.ensures.goes in
    let more : l.columns + 2 ≤ l.rest = omega (arith, c.loop-rest-test.true) in
    let m = l.rest - (l.columns + 1) in
    let sum : c.args.size - l.rest + (l.columns + 1) ≡ c.args.size - m = omega (arith, i.fewer, more) in
    let held = subst (IsHeld t bytes (drop l.here.row xs)) (sym c.as_slice.ensures.value) i.held in
    let new = c.write_line_ending.new.events.items in
    let written = λ (j : ℕ) (w : j ≤ 1).
    lines-next t bytes stack xs l.here end next i.cursor false (l.rest - j) l.columns (m - j) (i.full (omega (arith, more))) (omega (arith, more, w)) (omega (arith, i.left)) (omega (arith, more, w)) f h l.events.items c.write_further.new.events.items new
    (new ++ events_of (line_marks bytes false (string_lines (take (m - j) (left_at t bytes stack xs next))))) (c.in_ok-end.ensures.events stack xs i.cursor i.fits held) c.in_ok-here.ensures.events refl in
    record {
      cursor = h.at;
      left = omega (arith, i.left, more, ap (λ (p : List Place). length p) (behind-line t bytes stack xs l.here end next l.columns f h), length-drop (l.columns + 1) (left_at t bytes stack xs l.here));
      fewer = omega (arith, i.fewer);
      some = omega (arith, more);
      few = c.first_in-columns-in-loop-rest.ensures.few;
      fits = c.first_in-columns-in-loop-rest.ensures.fits;
      full = c.first_in-columns-in-loop-rest.ensures.full;
      held = c.in_ok-here.ensures.line;
      goes = subst (λ (n : ℕ). Goes t bytes stack xs c.args.cursor n next) sum (goes-on t bytes stack xs c.args.cursor l.here next (c.args.size - l.rest) (l.columns + 1) i.goes (goes-on t bytes stack xs l.here end next l.columns 1 f h));
      paid = omega (arith, i.paid, c.add_one.ensures, c.write_further.ensures.turns, c.in_ok-end.ensures.paid xs i.fits, c.in_ok-here.ensures.paid);
      events = λ j w. written j w ∙ i.events j w;
    }

pub write_further-requires-2 : goal.write_further-requires-2
write_further-requires-2 g c =
    let t = c.args.tab in
    let bytes = c.args.bytes.now in
    let stack = map open_of c.args.stack.now in
    let xs = c.args.rows.now in
    let l = c.loop-rest in
    let i = c.loop-rest.invariant in
    let here = here-of t bytes stack xs l.here i.cursor in
    let held = subst (IsHeld t bytes (drop l.here.row xs)) (sym c.as_slice-2.ensures.value) i.held in
    record {
      columns = has-columns t bytes stack (drop l.here.row xs) l.here.at here l.columns i.fits;
      within = line-within t bytes stack (drop l.here.row xs) l.here.at here l.columns c.as_slice-2.result.now i.fits held;
    }

pub returns-clause-events : goal.returns-clause-events
returns-clause-events g c =
    let t = c.args.tab in
    let bytes = c.args.bytes.now in
    let stack = map open_of c.args.stack.now in
    let xs = c.args.rows.now in
    let l = c.loop-rest in
    let i = c.loop-rest.invariant in
    let held = subst (IsHeld t bytes (drop l.here.row xs)) (sym c.as_slice-2.ensures.value) i.held in
    let few : l.rest - l.columns ≤ 1 = omega (arith, c.loop-rest-test.false) in
    lines-end t bytes stack xs l.here i.cursor false l.rest l.columns i.few i.fits l.events.items _ (c.in_ok-last.ensures.events stack xs i.cursor i.fits held) ∙ i.events (l.rest - l.columns) few

pub returns-clause-ends : goal.returns-clause-ends
returns-clause-ends g c =
    let t = c.args.tab in
    let bytes = c.args.bytes.now in
    let stack = map open_of c.args.stack.now in
    let xs = c.args.rows.now in
    let l = c.loop-rest in
    let i = c.loop-rest.invariant in
    let few : l.rest - l.columns ≤ 1 = omega (arith, c.loop-rest-test.false) in
    let sum : c.args.size - l.rest + l.columns ≡ c.args.size - (l.rest - l.columns) = omega (arith, i.fewer, i.few) in
    record {
      few = few;
      goes = subst (λ (n : ℕ). Goes t bytes stack xs c.args.cursor n c.in_ok-last.last) sum (goes-on t bytes stack xs c.args.cursor l.here c.in_ok-last.last (c.args.size - l.rest) l.columns i.goes (c.in_ok-last.ensures.goes stack xs i.cursor i.fits));
      whole = λ left. ends-here t bytes stack xs l.here c.args.cursor c.args.size l.rest l.columns i.cursor i.goes i.some i.fewer (omega (arith, left, i.few)) i.fits;
      feed = λ left. line-full t bytes stack xs l.here c.in_ok-last.last l.columns i.cursor (i.full (omega (arith, left))) c.in_ok-last.ensures.row c.in_ok-last.ensures.column;
    }

pub returns-in_err-end-clause-turns : goal.returns-in_err-end-clause-turns
returns-in_err-end-clause-turns g c =
    let t = c.args.tab in
    let bytes = c.args.bytes.now in
    let stack = map open_of c.args.stack.now in
    let xs = c.args.rows.now in
    let l = c.loop-rest in
    let i = c.loop-rest.invariant in
    omega (arith, i.paid, c.add_one.ensures, c.write_further.ensures.turns, leaf-fits xs l.here l.columns i.fits)

pub returns-in_err-here-clause-turns : goal.returns-in_err-here-clause-turns
returns-in_err-here-clause-turns g c =
    let t = c.args.tab in
    let bytes = c.args.bytes.now in
    let stack = map open_of c.args.stack.now in
    let xs = c.args.rows.now in
    let l = c.loop-rest in
    let i = c.loop-rest.invariant in
    omega (arith, i.paid, c.add_one.ensures, c.write_further.ensures.turns, c.in_ok-end.ensures.paid xs i.fits, c.write_line_ending.ensures.turns)

pub returns-in_err-last-clause-turns : goal.returns-in_err-last-clause-turns
returns-in_err-last-clause-turns g c =
    let t = c.args.tab in
    let bytes = c.args.bytes.now in
    let stack = map open_of c.args.stack.now in
    let xs = c.args.rows.now in
    let l = c.loop-rest in
    let i = c.loop-rest.invariant in
    omega (arith, i.paid, c.write_further-2.ensures.turns, leaf-fits xs l.here l.columns i.fits)

pub returns-clause-paid : goal.returns-clause-paid
returns-clause-paid g c =
    let t = c.args.tab in
    let bytes = c.args.bytes.now in
    let stack = map open_of c.args.stack.now in
    let xs = c.args.rows.now in
    let l = c.loop-rest in
    let i = c.loop-rest.invariant in
    omega (arith, i.paid, c.write_further-2.ensures.turns, c.in_ok-last.ensures.paid xs i.fits)

pub returns-clause-turns : goal.returns-clause-turns
returns-clause-turns g c =
    let t = c.args.tab in
    let bytes = c.args.bytes.now in
    let stack = map open_of c.args.stack.now in
    let xs = c.args.rows.now in
    let l = c.loop-rest in
    let i = c.loop-rest.invariant in
    omega (arith, i.paid, c.write_further-2.ensures.turns, leaf-fits xs l.here l.columns i.fits)
