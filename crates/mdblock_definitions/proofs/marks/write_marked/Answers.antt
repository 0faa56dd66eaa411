use Rattle.std.proofs.Common.{drop, map, refl, arith}
use Rattle.mdblock_containers.specs.Views.{open_of}
use Rattle.mdblock_definitions.proofs.MarksCursor.{has-columns, has-room, here-of}
use Rattle.mdblock_definitions.proofs.MarksParts.{inside-few, last-mark, mark-left, marked-goes, marked-written}
use Rattle.mdblock_definitions.proofs.MarksCosts.{leaf-fits}
use Rattle.mdblock_definitions.proofs.marks.write_marked.Goals as goal

pub write_leaf-requires : goal.write_leaf-requires
write_leaf-requires g c =
    let t = c.args.tab in
    let bytes = c.args.bytes.now in
    let stack = map open_of c.args.stack.now in
    let xs = c.args.rows.now in
    let here = here-of t bytes stack xs c.args.cursor c.requires.cursor in
    let ys = drop c.args.cursor.row xs in
    let at = c.args.cursor.at in
    let one = mark-left t bytes stack xs c.args.cursor c.requires.cursor _ refl c.requires.marks.first in
    record { columns = has-columns t bytes stack ys at here 1 one; room = has-room t bytes stack ys at here 1 one }

pub write_string-requires : goal.write_string-requires
write_string-requires g c =
    let t = c.args.tab in
    let bytes = c.args.bytes.now in
    let stack = map open_of c.args.stack.now in
    let xs = c.args.rows.now in
    let fits = c.requires.marks in
    let f = c.in_ok-first.ensures.goes stack xs c.requires.cursor (mark-left t bytes stack xs c.args.cursor c.requires.cursor _ refl fits.first) in
    record { cursor = f.at; size = inside-few t bytes stack xs c.args.cursor c.in_ok-first.first c.in_ok-first.first c.args.size fits f }

pub write_leaf-requires-2 : goal.write_leaf-requires-2
write_leaf-requires-2 g c =
    let t = c.args.tab in
    let bytes = c.args.bytes.now in
    let stack = map open_of c.args.stack.now in
    let xs = c.args.rows.now in
    let fits = c.requires.marks in
    let f = c.in_ok-first.ensures.goes stack xs c.requires.cursor (mark-left t bytes stack xs c.args.cursor c.requires.cursor _ refl fits.first) in
    let h = c.in_ok-last.ensures.goes in
    let one = last-mark t bytes stack xs c.args.cursor c.in_ok-first.first c.in_ok-last.last c.args.size fits f h in
    let last = c.in_ok-last.last in
    let here = here-of t bytes stack xs last h.at in
    record { columns = has-columns t bytes stack (drop last.row xs) last.at here 1 one; room = has-room t bytes stack (drop last.row xs) last.at here 1 one }

pub returns-clause-events : goal.returns-clause-events
returns-clause-events g c =
    let t = c.args.tab in
    let bytes = c.args.bytes.now in
    let stack = map open_of c.args.stack.now in
    let xs = c.args.rows.now in
    let fits = c.requires.marks in
    let f = c.in_ok-first.ensures.goes stack xs c.requires.cursor (mark-left t bytes stack xs c.args.cursor c.requires.cursor _ refl fits.first) in
    let h = c.in_ok-last.ensures.goes in
    let one = last-mark t bytes stack xs c.args.cursor c.in_ok-first.first c.in_ok-last.last c.args.size fits f h in
    marked-written t bytes stack xs c.args.cursor c.in_ok-first.first c.in_ok-last.last c.args.size fits f h c.requires.cursor c.in_ok-end.end (c.in_ok-end.ensures.goes stack xs h.at one) c.args.all c.args.mark c.args.inside
    c.args.events.now.items _ _ _ _ _ c.in_ok-enter.ensures (c.in_ok-first.ensures.events stack xs c.requires.cursor (mark-left t bytes stack xs c.args.cursor c.requires.cursor _ refl fits.first)) c.in_ok-last.ensures.events
    (c.in_ok-end.ensures.events stack xs h.at one) c.in_ok-exit.ensures

pub returns-clause-goes : goal.returns-clause-goes
returns-clause-goes g c =
    let t = c.args.tab in
    let bytes = c.args.bytes.now in
    let stack = map open_of c.args.stack.now in
    let xs = c.args.rows.now in
    let fits = c.requires.marks in
    let f = c.in_ok-first.ensures.goes stack xs c.requires.cursor (mark-left t bytes stack xs c.args.cursor c.requires.cursor _ refl fits.first) in
    let h = c.in_ok-last.ensures.goes in
    let one = last-mark t bytes stack xs c.args.cursor c.in_ok-first.first c.in_ok-last.last c.args.size fits f h in
    marked-goes t bytes stack xs c.args.cursor c.in_ok-first.first c.in_ok-last.last c.args.size fits f h c.in_ok-end.end (c.in_ok-end.ensures.goes stack xs h.at one)

pub returns-in_err-last-clause-turns : goal.returns-in_err-last-clause-turns
returns-in_err-last-clause-turns g c =
    let t = c.args.tab in
    let bytes = c.args.bytes.now in
    let stack = map open_of c.args.stack.now in
    let xs = c.args.rows.now in
    let fits = c.requires.marks in
    let mark = mark-left t bytes stack xs c.args.cursor c.requires.cursor _ refl fits.first in
    let f = c.in_ok-first.ensures.goes stack xs c.requires.cursor mark in
    let pays = c.in_ok-first.ensures.paid xs mark in
    omega (arith, pays, c.write_leaf.ensures.turns, c.write_string.ensures.turns)

pub returns-in_err-end-clause-turns : goal.returns-in_err-end-clause-turns
returns-in_err-end-clause-turns g c =
    let t = c.args.tab in
    let bytes = c.args.bytes.now in
    let stack = map open_of c.args.stack.now in
    let xs = c.args.rows.now in
    let fits = c.requires.marks in
    let mark = mark-left t bytes stack xs c.args.cursor c.requires.cursor _ refl fits.first in
    let f = c.in_ok-first.ensures.goes stack xs c.requires.cursor mark in
    let pays = c.in_ok-first.ensures.paid xs mark in
    let one = last-mark t bytes stack xs c.args.cursor c.in_ok-first.first c.in_ok-last.last c.args.size fits f c.in_ok-last.ensures.goes in
    omega (arith, pays, c.write_leaf.ensures.turns, c.in_ok-last.ensures.paid, leaf-fits xs c.in_ok-last.last 1 one, c.write_leaf-2.ensures.turns)

pub returns-in_err-exit-clause-turns : goal.returns-in_err-exit-clause-turns
returns-in_err-exit-clause-turns g c =
    let t = c.args.tab in
    let bytes = c.args.bytes.now in
    let stack = map open_of c.args.stack.now in
    let xs = c.args.rows.now in
    let fits = c.requires.marks in
    let mark = mark-left t bytes stack xs c.args.cursor c.requires.cursor _ refl fits.first in
    let f = c.in_ok-first.ensures.goes stack xs c.requires.cursor mark in
    let pays = c.in_ok-first.ensures.paid xs mark in
    let one = last-mark t bytes stack xs c.args.cursor c.in_ok-first.first c.in_ok-last.last c.args.size fits f c.in_ok-last.ensures.goes in
    omega (arith, pays, c.write_leaf.ensures.turns, c.in_ok-last.ensures.paid, leaf-fits xs c.in_ok-last.last 1 one, c.write_leaf-2.ensures.turns)

pub returns-clause-paid : goal.returns-clause-paid
returns-clause-paid g c =
    let t = c.args.tab in
    let bytes = c.args.bytes.now in
    let stack = map open_of c.args.stack.now in
    let xs = c.args.rows.now in
    let fits = c.requires.marks in
    let mark = mark-left t bytes stack xs c.args.cursor c.requires.cursor _ refl fits.first in
    let f = c.in_ok-first.ensures.goes stack xs c.requires.cursor mark in
    let pays = c.in_ok-first.ensures.paid xs mark in
    let one = last-mark t bytes stack xs c.args.cursor c.in_ok-first.first c.in_ok-last.last c.args.size fits f c.in_ok-last.ensures.goes in
    omega (arith, pays, c.write_leaf.ensures.turns, c.in_ok-last.ensures.paid, c.in_ok-end.ensures.paid xs one, c.write_leaf-2.ensures.turns)

pub returns-clause-turns : goal.returns-clause-turns
returns-clause-turns g c =
    let t = c.args.tab in
    let bytes = c.args.bytes.now in
    let stack = map open_of c.args.stack.now in
    let xs = c.args.rows.now in
    let fits = c.requires.marks in
    let mark = mark-left t bytes stack xs c.args.cursor c.requires.cursor _ refl fits.first in
    let f = c.in_ok-first.ensures.goes stack xs c.requires.cursor mark in
    let pays = c.in_ok-first.ensures.paid xs mark in
    let one = last-mark t bytes stack xs c.args.cursor c.in_ok-first.first c.in_ok-last.last c.args.size fits f c.in_ok-last.ensures.goes in
    omega (arith, pays, c.write_leaf.ensures.turns, c.in_ok-last.ensures.paid, leaf-fits xs c.in_ok-last.last 1 one, c.write_leaf-2.ensures.turns)
