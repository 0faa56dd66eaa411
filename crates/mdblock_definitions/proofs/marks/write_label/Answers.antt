use Rattle.std.proofs.Common.{drop, map, arith}
use Rattle.mdblock_containers.specs.Views.{open_of}
use Rattle.mdblock_definitions.proofs.MarksCursor.{has-columns, has-room, here-of}
use Rattle.mdblock_definitions.proofs.MarksParts.{colon-left, label-fits, label-goes, label-written}
use Rattle.mdblock_definitions.proofs.MarksCosts.{leaf-fits}
use Rattle.mdblock_definitions.proofs.marks.write_label.Goals as goal

pub write_marked-requires : goal.write_marked-requires
write_marked-requires g c =
    let t = c.args.tab in
    let bytes = c.args.bytes.now in
    let stack = map open_of c.args.stack.now in
    let xs = c.args.rows.now in
    record { cursor = c.in_ok-begin.ensures.goes.at; marks = label-fits t bytes stack xs c.args.cursor c.in_ok-begin.begin c.in_ok-begin.begin c.args.label c.in_ok-begin.ensures.goes c.requires.label }

pub write_leaf-requires : goal.write_leaf-requires
write_leaf-requires g c =
    let t = c.args.tab in
    let bytes = c.args.bytes.now in
    let stack = map open_of c.args.stack.now in
    let xs = c.args.rows.now in
    let label = c.args.label in
    let begin = c.in_ok-begin.begin in
    let last = c.in_ok-end.end in
    let f = c.in_ok-begin.ensures.goes in
    let h = c.in_ok-end.ensures.goes in
    let one = colon-left t bytes stack xs c.args.cursor begin last label f h c.requires.colon in
    let here = here-of t bytes stack xs last h.at in
    record { columns = has-columns t bytes stack (drop last.row xs) last.at here 1 one; room = has-room t bytes stack (drop last.row xs) last.at here 1 one }

pub returns-clause-events : goal.returns-clause-events
returns-clause-events g c =
    let t = c.args.tab in
    let bytes = c.args.bytes.now in
    let stack = map open_of c.args.stack.now in
    let xs = c.args.rows.now in
    let label = c.args.label in
    let begin = c.in_ok-begin.begin in
    let last = c.in_ok-end.end in
    let f = c.in_ok-begin.ensures.goes in
    let h = c.in_ok-end.ensures.goes in
    let one = colon-left t bytes stack xs c.args.cursor begin last label f h c.requires.colon in
    label-written t bytes stack xs c.args.cursor begin last label f h c.args.events.now.items _ _ _ c.in_ok-begin.ensures.events c.in_ok-end.ensures.events (c.in_ok-colon.ensures.events stack xs h.at one)

pub returns-clause-goes : goal.returns-clause-goes
returns-clause-goes g c =
    let t = c.args.tab in
    let bytes = c.args.bytes.now in
    let stack = map open_of c.args.stack.now in
    let xs = c.args.rows.now in
    let label = c.args.label in
    let begin = c.in_ok-begin.begin in
    let last = c.in_ok-end.end in
    let f = c.in_ok-begin.ensures.goes in
    let h = c.in_ok-end.ensures.goes in
    let one = colon-left t bytes stack xs c.args.cursor begin last label f h c.requires.colon in
    label-goes t bytes stack xs c.args.cursor begin last label f h c.in_ok-colon.colon (c.in_ok-colon.ensures.goes stack xs h.at one)

pub returns-in_err-colon-clause-turns : goal.returns-in_err-colon-clause-turns
returns-in_err-colon-clause-turns g c =
    let t = c.args.tab in
    let bytes = c.args.bytes.now in
    let stack = map open_of c.args.stack.now in
    let xs = c.args.rows.now in
    let last = c.in_ok-end.end in
    let h = c.in_ok-end.ensures.goes in
    let one = colon-left t bytes stack xs c.args.cursor c.in_ok-begin.begin last c.args.label c.in_ok-begin.ensures.goes h c.requires.colon in
    omega (arith, c.in_ok-begin.ensures.paid, c.in_ok-end.ensures.paid, leaf-fits xs last 1 one, c.write_leaf.ensures.turns)

pub returns-clause-paid : goal.returns-clause-paid
returns-clause-paid g c =
    let t = c.args.tab in
    let bytes = c.args.bytes.now in
    let stack = map open_of c.args.stack.now in
    let xs = c.args.rows.now in
    let last = c.in_ok-end.end in
    let h = c.in_ok-end.ensures.goes in
    let one = colon-left t bytes stack xs c.args.cursor c.in_ok-begin.begin last c.args.label c.in_ok-begin.ensures.goes h c.requires.colon in
    omega (arith, c.in_ok-begin.ensures.paid, c.in_ok-end.ensures.paid, c.in_ok-colon.ensures.paid xs one, c.write_leaf.ensures.turns)

pub returns-clause-turns : goal.returns-clause-turns
returns-clause-turns g c =
    let t = c.args.tab in
    let bytes = c.args.bytes.now in
    let stack = map open_of c.args.stack.now in
    let xs = c.args.rows.now in
    let last = c.in_ok-end.end in
    let h = c.in_ok-end.ensures.goes in
    let one = colon-left t bytes stack xs c.args.cursor c.in_ok-begin.begin last c.args.label c.in_ok-begin.ensures.goes h c.requires.colon in
    omega (arith, c.in_ok-begin.ensures.paid, c.in_ok-end.ensures.paid, leaf-fits xs last 1 one, c.write_leaf.ensures.turns)
