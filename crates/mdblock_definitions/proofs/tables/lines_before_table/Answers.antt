use Rattle.std.proofs.Common.{◌+◌, ◌-◌, List, arith, drop, length, subst, sym, take, ◌∙◌}
use Rattle.std.proofs.lemmas.List.{drop_all, take_rest}
use Rattle.mdblock_containers.specs.Ahead.{AreRows}
use Rattle.mdblock_containers.specs.declared.spans.RowAt.{RowAt}
use Rattle.mdblock_containers.proofs.AheadLemmas.{rows_length}
use Rattle.mdblock_definitions.proofs.SectionLemmas.{begins-table, next-line, rows-back}
use Rattle.mdblock_definitions.proofs.TableScans.{passed-all, passed-found, passed-more, passed-none}
use Rattle.mdblock_definitions.proofs.tables.lines_before_table.Goals as goal

pub loop-next-init : goal.loop-next-init
loop-next-init g c = record { within = omega arith; turns = omega arith; passed = λ all are. passed-none all }

pub loop-next-preserved : goal.loop-next-preserved
loop-next-preserved g c =
    let rows = c.args.rows.now in
    let n = c.loop-next.next in
    record {
      within = omega (arith, c.loop-next-test.true);
      turns = omega (arith, c.loop-next.invariant.turns, c.add_one.ensures);
      passed = λ all are.
          let line = next-line rows all n are c.loop-next-test.true in
          let behind = subst (λ (l : List RowAt). AreRows l (drop (n + 1) all)) (sym (take_rest rows (n + 1))) (rows-back (n + 1) rows all are) in
          passed-more all (drop n all) (drop (n + 1) all) line.row n line.rest (sym (c.begins_in_table.ensures ∙ begins-table (take (length rows - (n + 1)) (drop (n + 1) rows)) (drop (n + 1) all) behind) ∙ c.if-begins_in_table.false) (c.loop-next.invariant.passed all are);
    }

pub returns-then-begins_in_table-clause-value : goal.returns-then-begins_in_table-clause-value
returns-then-begins_in_table-clause-value g c = λ all are.
    let rows = c.args.rows.now in
    let n = c.loop-next.next in
    let line = next-line rows all n are c.loop-next-test.true in
    let behind = subst (λ (l : List RowAt). AreRows l (drop (n + 1) all)) (sym (take_rest rows (n + 1))) (rows-back (n + 1) rows all are) in
    passed-found all (drop n all) (drop (n + 1) all) line.row n line.rest (sym (c.begins_in_table.ensures ∙ begins-table (take (length rows - (n + 1)) (drop (n + 1) rows)) (drop (n + 1) all) behind) ∙ c.if-begins_in_table.true) (c.loop-next.invariant.passed all are)

pub returns-clause-value : goal.returns-clause-value
returns-clause-value g c = λ all are.
    let n = c.loop-next.next in
    passed-all all (drop n all) n (drop_all n all (omega (arith, rows_length c.args.rows.now all are))) (c.loop-next.invariant.passed all are)
