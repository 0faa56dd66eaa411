use Rattle.std.proofs.Common.{◌≡◌, ◌<◌, ◌∷◌, drop, map, sym, ap, ◌∙◌, subst, arith}
use Rattle.std.specs.List.{AllByRecursion}
use Rattle.mdblock_containers.specs.Costs.{columns_in}
use Rattle.mdblock_containers.specs.Views.{open_of}
use Rattle.mdblock_table_marks.specs.Lines.{HasText, IsFurther}
use Rattle.mdblock_table_marks.proofs.TableWriting.{table-written, tabled, two-rows, two-split}
use Rattle.mdblock_table_marks.proofs.tables.write_table.Goals as goal

pub bounds-rows-0 : goal.bounds-rows-0
bounds-rows-0 g c = omega (arith, two-rows c.args.rows.now c.requires.table)

pub bounds-rows-1 : goal.bounds-rows-1
bounds-rows-1 g c = omega (arith, two-rows c.args.rows.now c.requires.table)

pub rows_behind-more-requires : goal.rows_behind-more-requires
rows_behind-more-requires g c = two-rows c.args.rows.now c.requires.table

pub write_head-requires : goal.write_head-requires
write_head-requires g c =
    let t = c.args.tab in
    let some : 0 < t = omega (arith, c.get-tab_size.ensures.least, c.get-tab_size.ensures.columns) in
    let rows = c.args.rows.now in
    let x = c.index-rows-0.result in
    let y = c.index-rows-1.result in
    let split : rows ≡ x ∷ y ∷ drop 2 rows = two-split rows x y c.requires.table c.index-rows-0.is c.index-rows-1.is in
    let is = tabled t c.args.bytes.now (map open_of c.args.stack.now) some c.requires.limit rows x y (drop 2 rows) c.args.begin split c.requires.lines c.requires.begin c.requires.table in
    record { limit = c.requires.limit; stands = is.stands; columns = is.columns; place = is.place; further = is.next }

pub write_rest-requires : goal.write_rest-requires
write_rest-requires g c =
    let t = c.args.tab in
    let some : 0 < t = omega (arith, c.get-tab_size.ensures.least, c.get-tab_size.ensures.columns) in
    let rows = c.args.rows.now in
    let x = c.index-rows-0.result in
    let y = c.index-rows-1.result in
    let P = IsFurther t c.args.bytes.now (map open_of c.args.stack.now) in
    let split : rows ≡ x ∷ y ∷ drop 2 rows = two-split rows x y c.requires.table c.index-rows-0.is c.index-rows-1.is in
    let is = tabled t c.args.bytes.now (map open_of c.args.stack.now) some c.requires.limit rows x y (drop 2 rows) c.args.begin split c.requires.lines c.requires.begin c.requires.table in
    record { limit = c.requires.limit; further = subst (AllByRecursion P) (sym c.rows_behind-more.ensures) is.further; text = subst (AllByRecursion HasText) (sym c.rows_behind-more.ensures) is.text }

pub returns-in_err-head-clause-turns : goal.returns-in_err-head-clause-turns
returns-in_err-head-clause-turns g c =
    let rows = c.args.rows.now in
    let cost = ap columns_in (two-split rows c.index-rows-0.result c.index-rows-1.result c.requires.table c.index-rows-0.is c.index-rows-1.is) in
    omega (arith, c.write_head.ensures.turns, cost)

pub returns-in_err-last-clause-turns : goal.returns-in_err-last-clause-turns
returns-in_err-last-clause-turns g c =
    let rows = c.args.rows.now in
    let cost = ap columns_in (two-split rows c.index-rows-0.result c.index-rows-1.result c.requires.table c.index-rows-0.is c.index-rows-1.is) in
    omega (arith, c.write_head.ensures.turns, c.write_rest.ensures.turns, cost, ap columns_in c.rows_behind-more.ensures)

pub returns-in_err-exit-clause-turns : goal.returns-in_err-exit-clause-turns
returns-in_err-exit-clause-turns g c =
    let rows = c.args.rows.now in
    let cost = ap columns_in (two-split rows c.index-rows-0.result c.index-rows-1.result c.requires.table c.index-rows-0.is c.index-rows-1.is) in
    omega (arith, c.write_head.ensures.turns, c.write_rest.ensures.turns, cost, ap columns_in c.rows_behind-more.ensures)

pub returns : goal.returns
returns g c =
    let t = c.args.tab in
    let bytes = c.args.bytes.now in
    let some : 0 < t = omega (arith, c.get-tab_size.ensures.least, c.get-tab_size.ensures.columns) in
    let stack = map open_of c.args.stack.now in
    let rows = c.args.rows.now in
    let x = c.index-rows-0.result in
    let y = c.index-rows-1.result in
    let more = c.rows_behind-more.result.now in
    let split : rows ≡ x ∷ y ∷ drop 2 rows = two-split rows x y c.requires.table c.index-rows-0.is c.index-rows-1.is in
    let whole : rows ≡ x ∷ y ∷ more = split ∙ ap (λ l. x ∷ y ∷ l) (sym c.rows_behind-more.ensures) in
    let is = tabled t bytes stack some c.requires.limit rows x y (drop 2 rows) c.args.begin split c.requires.lines c.requires.begin c.requires.table in
    let cost = ap columns_in whole in
    record {
      events = λ part are rest all w. table-written t bytes stack some c.requires.limit rows x y more c.args.begin c.in_ok-head.head c.in_ok-last.last c.args.events.now.items c.enter.new.events.items c.write_head.new.events.items c.write_rest.new.events.items
          c.exit.new.events.items whole is.columns is.place c.in_ok-head.ensures.end c.in_ok-last.ensures.end c.in_ok-enter.ensures c.in_ok-head.ensures.events c.in_ok-last.ensures.events c.in_ok-exit.ensures part.first part.more are rest all w;
      turns = omega (arith, c.write_head.ensures.turns, c.write_rest.ensures.turns, cost);
    }
