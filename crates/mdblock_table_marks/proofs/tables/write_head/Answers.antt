use Rattle.std.proofs.Common.{◌<◌, map, arith}
use Rattle.mdblock_containers.specs.Views.{open_of}
use Rattle.mdblock_table_marks.proofs.TableWriting.{head-written}
use Rattle.mdblock_table_marks.proofs.tables.write_head.Goals as goal

pub returns-clause-events : goal.returns-clause-events
returns-clause-events g c = λ r s is n.
    let some : 0 < c.args.tab = omega (arith, c.get-tab_size.ensures.least, c.get-tab_size.ensures.columns) in
    head-written c.args.tab c.args.bytes.now (map open_of c.args.stack.now) some c.requires.limit c.args.first.now c.args.next.now c.args.begin c.in_ok-header.header c.in_ok-end.end c.args.events.now.items c.enter.new.events.items c.write_header.new.events.items
    c.write_next.new.events.items c.exit.new.events.items c.requires.columns c.requires.place c.in_ok-header.ensures.place c.in_ok-end.ensures.place c.in_ok-enter.ensures c.in_ok-header.ensures.events c.in_ok-end.ensures.events c.in_ok-exit.ensures r s is n
