use Rattle.std.proofs.Common.{◌≡◌, take, map, refl, sym, ap, ◌∙◌, subst, arith, ◌+◌, drop, length}
use Rattle.std.proofs.lemmas.List.{length-map, take-map}
use Rattle.markdown_base.proofs.Common.{every-take}
use Rattle.mdblock_containers.specs.declared.spans.RowAt.{RowAt}
use Rattle.mdblock_containers.specs.Costs.{HasSize, HaveSizes}
use Rattle.mdblock_containers.specs.Views.{open_of}
use Rattle.mdblock_definitions.proofs.MarksCursor.{ending-goes, next-columns, next-held, next-inside, next-many, next-marks, next-of, next-place, next-same, next-size, next-within, next-rows}
use Rattle.mdblock_definitions.proofs.MarksCosts.{first-size, line-pays}
use Rattle.mdblock_lines.specs.Lines.{line_bytes}
use Rattle.mdblock_definitions.proofs.MarksStrings.{prefixes-written}
use Rattle.mdblock_definitions.proofs.marks.write_prefixes.Goals as goal

pub bounds-rows-row : goal.bounds-rows-row
bounds-rows-row g c =
    let t = c.args.tab in
    let bytes = c.args.bytes.now in
    let stack = map open_of c.args.stack.now in
    let xs = c.args.rows.now in
    let n = next-of t bytes stack xs c.args.cursor c.requires.cursor c.requires.end c.requires.more in
    next-within t bytes stack xs c.args.cursor n

pub first_of-front-requires : goal.first_of-front-requires
first_of-front-requires g c =
    let t = c.args.tab in
    let bytes = c.args.bytes.now in
    let stack = map open_of c.args.stack.now in
    let xs = c.args.rows.now in
    let n = next-of t bytes stack xs c.args.cursor c.requires.cursor c.requires.end c.requires.more in
    let x = c.index-rows-row.result in
    let is = c.index-rows-row.is in
    let many = next-many t bytes stack xs c.args.cursor n x is in
    omega (arith, many, length-map c.args.stack.now open_of)

pub prefixes_of-requires-clause-inside : goal.prefixes_of-requires-clause-inside
prefixes_of-requires-clause-inside g c =
    let t = c.args.tab in
    let bytes = c.args.bytes.now in
    let stack = map open_of c.args.stack.now in
    let xs = c.args.rows.now in
    let n = next-of t bytes stack xs c.args.cursor c.requires.cursor c.requires.end c.requires.more in
    let x = c.index-rows-row.result in
    let is = c.index-rows-row.is in
    next-inside t bytes stack xs c.args.cursor n x is

pub prefixes_of-requires-clause-columns : goal.prefixes_of-requires-clause-columns
prefixes_of-requires-clause-columns g c =
    let t = c.args.tab in
    let bytes = c.args.bytes.now in
    let stack = map open_of c.args.stack.now in
    let xs = c.args.rows.now in
    let n = next-of t bytes stack xs c.args.cursor c.requires.cursor c.requires.end c.requires.more in
    let x = c.index-rows-row.result in
    let is = c.index-rows-row.is in
    next-columns t bytes stack xs c.args.cursor n x is

pub prefixes_of-requires-clause-sizes : goal.prefixes_of-requires-clause-sizes
prefixes_of-requires-clause-sizes g c =
    let t = c.args.tab in
    let bytes = c.args.bytes.now in
    let stack = map open_of c.args.stack.now in
    let xs = c.args.rows.now in
    let n = next-of t bytes stack xs c.args.cursor c.requires.cursor c.requires.end c.requires.more in
    let x = c.index-rows-row.result in
    let is = c.index-rows-row.is in
    let front : map open_of c.first_of-front.result.now ≡ take x.row.many stack = ap (map open_of) c.first_of-front.ensures ∙ sym (take-map open_of x.row.many c.args.stack.now) in
    subst HaveSizes (sym front) (every-take HasSize x.row.many stack n.sizes)

pub returns-clause-events : goal.returns-clause-events
returns-clause-events g c =
    let t = c.args.tab in
    let bytes = c.args.bytes.now in
    let stack = map open_of c.args.stack.now in
    let xs = c.args.rows.now in
    let n = next-of t bytes stack xs c.args.cursor c.requires.cursor c.requires.end c.requires.more in
    let x = c.index-rows-row.result in
    let is = c.index-rows-row.is in
    let front : map open_of c.first_of-front.result.now ≡ take x.row.many stack = ap (map open_of) c.first_of-front.ensures ∙ sym (take-map open_of x.row.many c.args.stack.now) in
    prefixes-written t bytes stack xs c.args.cursor n c.args.events.now.items _
    (next-marks t bytes stack xs c.args.cursor n x is (map open_of c.first_of-front.result.now) front c.args.events.now.items c.prefixes_of.new.events.items c.in_ok-at.ensures.marks)

pub returns-clause-goes : goal.returns-clause-goes
returns-clause-goes g c =
    let t = c.args.tab in
    let bytes = c.args.bytes.now in
    let stack = map open_of c.args.stack.now in
    let xs = c.args.rows.now in
    let n = next-of t bytes stack xs c.args.cursor c.requires.cursor c.requires.end c.requires.more in
    let x = c.index-rows-row.result in
    let is = c.index-rows-row.is in
    let front : map open_of c.first_of-front.result.now ≡ take x.row.many stack = ap (map open_of) c.first_of-front.ensures ∙ sym (take-map open_of x.row.many c.args.stack.now) in
    let all = map open_of c.first_of-front.result.now in
    ending-goes t bytes stack xs c.args.cursor c.requires.cursor n _ refl (next-size t bytes stack xs c.args.cursor n x is all front c.in_ok-at.at.columns c.in_ok-at.ensures.columns)
    (next-place t bytes stack xs c.args.cursor n x is all front c.in_ok-at.at.columns c.in_ok-at.at.place c.in_ok-at.ensures.columns c.in_ok-at.ensures.place)

pub returns-clause-line : goal.returns-clause-line
returns-clause-line g c =
    let t = c.args.tab in
    let bytes = c.args.bytes.now in
    let stack = map open_of c.args.stack.now in
    let xs = c.args.rows.now in
    let n = next-of t bytes stack xs c.args.cursor c.requires.cursor c.requires.end c.requires.more in
    let x = c.index-rows-row.result in
    let is = c.index-rows-row.is in
    next-held t bytes stack xs c.args.cursor n x is c.prefixes_of.new.line.items c.in_ok-at.ensures.line

pub returns-clause-paid : goal.returns-clause-paid
returns-clause-paid g c =
    let t = c.args.tab in
    let bytes = c.args.bytes.now in
    let stack = map open_of c.args.stack.now in
    let xs = c.args.rows.now in
    let n = next-of t bytes stack xs c.args.cursor c.requires.cursor c.requires.end c.requires.more in
    let same = next-same t bytes stack xs c.args.cursor n c.index-rows-row.result c.index-rows-row.is in
    let size = first-size t bytes stack n.y n.zs n.lines in
    let read = ap (λ (y : RowAt). length (line_bytes t y.span.number 1 y.span.start (drop y.span.start bytes))) same in
    let pays = line-pays xs c.args.cursor (record { row = c.args.cursor.row + 1; at = c.in_ok-at.at }) n.y n.zs c.args.turns.now c.prefixes_of.new.turns (next-rows t bytes stack xs c.args.cursor n) refl (omega (arith, c.prefixes_of.ensures.turns, size, read)) in
    pays

pub returns-clause-turns : goal.returns-clause-turns
returns-clause-turns g c =
    let t = c.args.tab in
    let bytes = c.args.bytes.now in
    let stack = map open_of c.args.stack.now in
    let xs = c.args.rows.now in
    let n = next-of t bytes stack xs c.args.cursor c.requires.cursor c.requires.end c.requires.more in
    let same = next-same t bytes stack xs c.args.cursor n c.index-rows-row.result c.index-rows-row.is in
    let size = first-size t bytes stack n.y n.zs n.lines in
    let read = ap (λ (y : RowAt). length (line_bytes t y.span.number 1 y.span.start (drop y.span.start bytes))) same in
    let pays = line-pays xs c.args.cursor (record { row = c.args.cursor.row + 1; at = c.in_ok-at.at }) n.y n.zs c.args.turns.now c.prefixes_of.new.turns (next-rows t bytes stack xs c.args.cursor n) refl (omega (arith, c.prefixes_of.ensures.turns, size, read)) in
    omega (arith, pays)

pub returns-in_err-at-clause-turns : goal.returns-in_err-at-clause-turns
returns-in_err-at-clause-turns g c =
    let t = c.args.tab in
    let bytes = c.args.bytes.now in
    let stack = map open_of c.args.stack.now in
    let xs = c.args.rows.now in
    let n = next-of t bytes stack xs c.args.cursor c.requires.cursor c.requires.end c.requires.more in
    let same = next-same t bytes stack xs c.args.cursor n c.index-rows-row.result c.index-rows-row.is in
    let size = first-size t bytes stack n.y n.zs n.lines in
    let read = ap (λ (y : RowAt). length (line_bytes t y.span.number 1 y.span.start (drop y.span.start bytes))) same in
    let pays = line-pays xs c.args.cursor (record { row = c.args.cursor.row + 1; at = c.args.cursor.at }) n.y n.zs c.args.turns.now c.prefixes_of.new.turns (next-rows t bytes stack xs c.args.cursor n) refl (omega (arith, c.prefixes_of.ensures.turns, size, read)) in
    omega (arith, pays)
