use Rattle.std.proofs.Common.{◌+◌, arith, drop, length, sym, ◌∙◌}
use Rattle.std.proofs.lemmas.List.{drop_all}
use Rattle.mdblock_containers.proofs.AheadLemmas.{rows_length}
use Rattle.mdblock_definitions.proofs.SectionGoing.{some-rows}
use Rattle.mdblock_definitions.proofs.SectionLemmas.{next-line}
use Rattle.mdblock_definitions.proofs.TableScans.{in-all, in-end, in-first, in-more}
use Rattle.mdblock_definitions.proofs.tables.lines_of_table.Goals as goal

pub loop-next-init : goal.loop-next-init
loop-next-init g c = record {
  some = omega arith;
  within = omega (arith, some-rows (length c.args.rows.now) c.is_empty.result c.is_empty.ensures c.if-is_empty.false);
  turns = omega arith;
  inside = λ all are. let line = next-line c.args.rows.now all 0 are (omega (arith, some-rows (length c.args.rows.now) c.is_empty.result c.is_empty.ensures c.if-is_empty.false)) in in-first all line.row (drop (0 + 1) all) line.rest;
}

pub loop-next-preserved : goal.loop-next-preserved
loop-next-preserved g c =
    let n = c.loop-next.next in
    record {
      some = omega arith;
      within = omega (arith, c.loop-next-test.true);
      turns = omega (arith, c.loop-next.invariant.turns, c.add_one.ensures);
      inside = λ all are.
          let line = next-line c.args.rows.now all n are c.loop-next-test.true in
          in-more all (drop n all) (drop (n + 1) all) line.row n line.rest (sym (line.table c.index-rows-next.result c.index-rows-next.is) ∙ sym c.is_in_table.ensures ∙ c.if-not-is_in_table.false) (c.loop-next.invariant.inside all are);
    }

pub returns-then-not-is_in_table-clause-value : goal.returns-then-not-is_in_table-clause-value
returns-then-not-is_in_table-clause-value g c = λ all are.
    let n = c.loop-next.next in
    let line = next-line c.args.rows.now all n are c.loop-next-test.true in
    in-end all (drop n all) (drop (n + 1) all) line.row n line.rest (sym (line.table c.index-rows-next.result c.index-rows-next.is) ∙ sym c.is_in_table.ensures ∙ c.if-not-is_in_table.true) (c.loop-next.invariant.inside all are)

pub returns-clause-value : goal.returns-clause-value
returns-clause-value g c = λ all are.
    let n = c.loop-next.next in
    in-all all (drop n all) n (drop_all n all (omega (arith, rows_length c.args.rows.now all are))) (c.loop-next.invariant.inside all are)
