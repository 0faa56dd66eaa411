use Rattle.std.proofs.Common.{◌<◌, List, map, sym, subst, arith, ◌∙◌}
use Rattle.mdblock_containers.specs.declared.spans.RowAt.{RowAt}
use Rattle.mdblock_containers.specs.Views.{open_of}
use Rattle.mdblock_table_marks.specs.Lines.{CanBeTable, IsBegin}
use Rattle.mdblock_definitions.specs.Skeleton.{all_rows}
use Rattle.mdblock_definitions.proofs.SectionFacts.{rows-bytes, section-columns}
use Rattle.mdblock_definitions.proofs.Sectioned.{blank-is}
use Rattle.mdblock_definitions.proofs.TableLines.{section-tabled, table-lines}
use Rattle.mdblock_definitions.proofs.skeleton.write_rows.Goals as goal

pub write_table-requires : goal.write_table-requires
write_table-requires g c =
    let t = c.args.tab in
    let bytes = c.args.bytes.now in
    let stack = map open_of c.args.stack.now in
    let some : 0 < t = omega (arith, c.get-tab_size.ensures.least, c.get-tab_size.ensures.columns) in
    let section = c.requires.1.1.1.0 in
    let blank = blank-is t bytes some c.requires.1.0 stack c.args.first.now c.args.more.now g.part section in
    record {
      limit = c.requires.1.0;
      lines = record { all = all_rows g.part; are = table-lines t bytes stack c.args.first.now c.args.more.now g.part section c.args.rows.now c.requires.1.1.0 };
      begin = subst (λ (l : List RowAt). IsBegin t bytes l c.args.begin) (sym c.requires.1.1.0)
          (section-columns t bytes stack c.args.first.now c.args.more.now g.part section c.args.begin c.requires.1.1.1.1.0 (blank ∙ c.requires.1.1.1.1.1.0), c.requires.1.1.1.1.0.place);
      table = subst CanBeTable (sym c.requires.1.1.0) (section-tabled t bytes stack c.args.first.now c.args.more.now g.part section c.requires.1.1.1.1.1.1);
    }

pub returns-clause-events : goal.returns-clause-events
returns-clause-events g c = λ rest all w.
    let are = table-lines c.args.tab c.args.bytes.now (map open_of c.args.stack.now) c.args.first.now c.args.more.now g.part c.requires.1.1.1.0 c.args.rows.now c.requires.1.1.0 in
    c.in_ok-write_table.ensures.events g.part are rest all w

pub returns-clause-turns : goal.returns-clause-turns
returns-clause-turns g c =
    let columns = rows-bytes c.args.tab c.args.bytes.now (map open_of c.args.stack.now) c.args.first.now c.args.more.now g.part c.requires.1.1.1.0 c.args.rows.now c.requires.1.1.0 in
    omega (arith, columns, c.write_table.ensures.turns)

pub returns-in_err-write_table-clause-turns : goal.returns-in_err-write_table-clause-turns
returns-in_err-write_table-clause-turns g c =
    let columns = rows-bytes c.args.tab c.args.bytes.now (map open_of c.args.stack.now) c.args.first.now c.args.more.now g.part c.requires.1.1.1.0 c.args.rows.now c.requires.1.1.0 in
    omega (arith, columns, c.write_table.ensures.turns)
