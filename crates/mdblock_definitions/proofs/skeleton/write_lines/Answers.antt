use Rattle.std.proofs.Common.{◌<◌, ◌++◌, map, subst, arith}
use Rattle.std.specs.Prelude.{Bool, cond, false, None}
use Rattle.mdblock_containers.specs.Skeleton.{inside_of, is_held}
use Rattle.mdblock_containers.specs.Views.{open_of}
use Rattle.mdblock_containers.specs.Written.{Written}
use Rattle.mdblock_definitions.specs.Skeleton.{behind_definitions}
use Rattle.mdblock_definitions.proofs.Sectioned.{begin-columns, begin-filled, columns-are, either-begins, further-are, inside-is, not-behind, size-is, the-row, write-blank}
use Rattle.mdblock_definitions.proofs.SectionFacts.{section-bytes}
use Rattle.mdblock_definitions.proofs.skeleton.write_lines.Goals as goal

pub white-requires : goal.white-requires
white-requires g c =
    let some : 0 < c.args.tab = omega (arith, c.get-tab_size.ensures.least, c.get-tab_size.ensures.columns) in
    begin-columns c.args.tab c.args.bytes.now some c.requires.1.0 (map open_of c.args.stack.now) c.args.first.now c.args.more.now g.part c.requires.1.1.0 c.args.begin c.requires.1.1.1.0

pub returns-then-is_blank-clause-events : goal.returns-then-is_blank-clause-events
returns-then-is_blank-clause-events g c = λ rest all w.
    let some : 0 < c.args.tab = omega (arith, c.get-tab_size.ensures.least, c.get-tab_size.ensures.columns) in
    let no = not-behind c.args.is_behind c.args.first.now.row.is_blank c.if-is_blank.true c.requires.1.1.1.1.0 in
    write-blank c.args.tab c.args.bytes.now some c.requires.1.0 (map open_of c.args.stack.now) c.args.first.now c.args.more.now g.part c.requires.1.1.0 c.args.begin c.requires.1.1.1.0 c.args.events.now.items c.white.new.events.items rest all c.if-is_blank.true c.in_ok-white.ensures.events
    (subst (λ (b : Bool). Written c.args.events.now.items None false (cond b (behind_definitions c.args.bytes.now g.part) (inside_of c.args.bytes.now g.part) ++ rest) all) no w)

pub write_front-requires : goal.write_front-requires
write_front-requires g c =
    let t = c.args.tab in
    let bytes = c.args.bytes.now in
    let some : 0 < c.args.tab = omega (arith, c.get-tab_size.ensures.least, c.get-tab_size.ensures.columns) in
    let stack = map open_of c.args.stack.now in
    let x = c.args.first.now in
    let xs = c.args.more.now in
    let s = c.requires.1.1.0 in
    record {
      inside = inside-is t bytes some c.requires.1.0 stack x xs g.part s;
      columns = columns-are t bytes some c.requires.1.0 stack x xs g.part s;
      within = omega (arith, size-is t bytes some c.requires.1.0 stack x xs g.part s, (the-row t bytes some c.requires.1.0 stack x xs g.part s).placed.columns);
      begin = begin-filled t bytes some c.requires.1.0 stack x xs g.part s c.args.begin c.requires.1.1.1.0 c.if-is_blank.false;
      place = c.requires.1.1.1.0.place;
    }

pub stretch-requires : goal.stretch-requires
stretch-requires g c =
    let some : 0 < c.args.tab = omega (arith, c.get-tab_size.ensures.least, c.get-tab_size.ensures.columns) in
    record { limit = c.requires.1.0; further = further-are c.args.tab c.args.bytes.now some c.requires.1.0 (map open_of c.args.stack.now) c.args.first.now c.args.more.now g.part c.requires.1.1.0 }

pub returns-clause-events : goal.returns-clause-events
returns-clause-events g c = λ rest all w.
    let t = c.args.tab in
    let bytes = c.args.bytes.now in
    let some : 0 < c.args.tab = omega (arith, c.get-tab_size.ensures.least, c.get-tab_size.ensures.columns) in
    c.in_ok-stretch.ensures.value (is_held g.part) rest all
    (either-begins t bytes some c.requires.1.0 (map open_of c.args.stack.now) c.args.first.now c.args.more.now g.part c.requires.1.1.0 c.args.begin c.requires.1.1.1.0 c.if-is_blank.false c.args.is_behind c.args.events.now.items
    c.write_front.new.events.items c.in_ok-from.from c.args.end rest all c.in_ok-from.ensures.events c.in_ok-from.ensures.place c.requires.1.1.1.1.1 w)

pub returns-then-is_blank-clause-turns : goal.returns-then-is_blank-clause-turns
returns-then-is_blank-clause-turns g c =
    let t = c.args.tab in
    let bytes = c.args.bytes.now in
    let some : 0 < c.args.tab = omega (arith, c.get-tab_size.ensures.least, c.get-tab_size.ensures.columns) in
    let stack = map open_of c.args.stack.now in
    let size = size-is t bytes some c.requires.1.0 stack c.args.first.now c.args.more.now g.part c.requires.1.1.0 in
    let more = section-bytes t bytes stack c.args.first.now c.args.more.now g.part c.requires.1.1.0 in
    omega (arith, size, c.white.ensures.turns)

pub returns-in_err-white-clause-turns : goal.returns-in_err-white-clause-turns
returns-in_err-white-clause-turns g c =
    let t = c.args.tab in
    let bytes = c.args.bytes.now in
    let some : 0 < c.args.tab = omega (arith, c.get-tab_size.ensures.least, c.get-tab_size.ensures.columns) in
    let stack = map open_of c.args.stack.now in
    let size = size-is t bytes some c.requires.1.0 stack c.args.first.now c.args.more.now g.part c.requires.1.1.0 in
    let more = section-bytes t bytes stack c.args.first.now c.args.more.now g.part c.requires.1.1.0 in
    omega (arith, size, c.white.ensures.turns)

pub returns-in_err-stretch-clause-turns : goal.returns-in_err-stretch-clause-turns
returns-in_err-stretch-clause-turns g c =
    let t = c.args.tab in
    let bytes = c.args.bytes.now in
    let some : 0 < c.args.tab = omega (arith, c.get-tab_size.ensures.least, c.get-tab_size.ensures.columns) in
    let stack = map open_of c.args.stack.now in
    let size = size-is t bytes some c.requires.1.0 stack c.args.first.now c.args.more.now g.part c.requires.1.1.0 in
    let more = section-bytes t bytes stack c.args.first.now c.args.more.now g.part c.requires.1.1.0 in
    omega (arith, size, c.write_front.ensures.turns, c.stretch.ensures.turns, more)

pub returns-clause-turns : goal.returns-clause-turns
returns-clause-turns g c =
    let t = c.args.tab in
    let bytes = c.args.bytes.now in
    let some : 0 < c.args.tab = omega (arith, c.get-tab_size.ensures.least, c.get-tab_size.ensures.columns) in
    let stack = map open_of c.args.stack.now in
    let size = size-is t bytes some c.requires.1.0 stack c.args.first.now c.args.more.now g.part c.requires.1.1.0 in
    let more = section-bytes t bytes stack c.args.first.now c.args.more.now g.part c.requires.1.1.0 in
    omega (arith, size, c.write_front.ensures.turns, c.stretch.ensures.turns, more)
