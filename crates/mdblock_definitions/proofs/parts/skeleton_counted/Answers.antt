use Rattle.std.proofs.Common.{◌≡◌, ◌<◌, List, [], length, refl, sym, ap, ◌∙◌, subst, arith}
use Rattle.markdown_base.specs.Virtual.{virtual}
use Rattle.mdconstructs_machines.specs.LineEvents.{lines_in}
use Rattle.mdblock_containers.specs.declared.ahead.Ahead.{Ahead}
use Rattle.mdblock_containers.specs.declared.spans.RowAt.{RowAt}
use Rattle.mdblock_containers.specs.Ahead.{AreRows}
use Rattle.mdblock_containers.specs.Spans.{AreRowsIn}
use Rattle.mdblock_definitions.specs.Rows.{rows}
use Rattle.mdblock_definitions.proofs.KnownReads.{known-reads, nothing}
use Rattle.mdblock_definitions.proofs.KnownRows.{known-in}
use Rattle.mdblock_definitions.proofs.PartTexts.{all-texts}
use Rattle.mdblock_containers.specs.Costs.{columns_in}
use Rattle.mdblock_containers.proofs.AheadLemmas.{same_aheads}
use Rattle.mdblock_containers.proofs.ColumnLemmas.{all_columns, many_columns}
use Rattle.mdblock_containers.proofs.RowReads.{first_paid, rows_paid}
use Rattle.mdblock_definitions.proofs.parts.skeleton_counted.Goals as goal

pub skeleton_by-requires : goal.skeleton_by-requires
skeleton_by-requires g c = λ lifetimes outlives.
    let t = c.args.tab in
    let bytes = c.args.bytes.now in
    let on = c.args.on.now in
    let ls = lines_in (virtual t bytes) in
    let all = rows on ls in
    let some : 0 < t = omega (arith, c.get-tab_size.ensures.least, c.get-tab_size.ensures.columns) in
    let items = c.in_ok-rows.rows.items in
    let one : c.as_slice-2.result.now ≡ c.as_slice.result.now = c.as_slice-2.ensures.value ∙ sym c.as_slice.ensures.value in
    let are : AreRowsIn t bytes [] 1 0 items all = known-in on t bytes some (nothing on) 1 0 items all refl c.in_ok-rows.ensures.rows c.in_ok-rows.ensures.placed tt in
    let aheads = c.in_ok-aheads.ensures.aheads all (subst (λ (l : List RowAt). AreRows l all) (sym c.as_slice.ensures.value) c.in_ok-rows.ensures.rows) in
    let sizes = ap (λ (l : List Ahead). length l) c.as_slice-3.ensures.value ∙ c.in_ok-aheads.ensures.len ∙ ap (λ (l : List RowAt). length l) (sym one) in
    let ahead_of_each = same_aheads c.as_slice-2.result.now c.as_slice.result.now c.as_slice-3.result.now c.in_ok-aheads.aheads.items all one c.as_slice-3.ensures.value aheads in
    (outlives, (c.requires.limit, (subst (λ (l : List RowAt). AreRowsIn t bytes [] 1 0 l all) (sym c.as_slice-2.ensures.value) are, (sizes, (ahead_of_each, (first_paid on (known-reads on) (nothing on) 1 ls refl, (rows_paid on (known-reads on) (nothing on) 1 ls tt, all-texts on ls)))))))

pub returns-in_err-aheads-clause-turns : goal.returns-in_err-aheads-clause-turns
returns-in_err-aheads-clause-turns g c =
    let some : 0 < c.args.tab = omega (arith, c.get-tab_size.ensures.least, c.get-tab_size.ensures.columns) in
    let columns = all_columns c.args.tab c.args.bytes.now some c.in_ok-rows.rows.items c.in_ok-rows.ensures.placed in
    let many = many_columns c.in_ok-rows.rows.items in
    let first = ap (λ (l : List RowAt). length l) c.as_slice.ensures.value in
    omega (arith, columns, many, first, c.rows_with_definitions.ensures.turns, c.aheads_of.ensures.turns)

pub returns-in_err-skeleton-clause-turns : goal.returns-in_err-skeleton-clause-turns
returns-in_err-skeleton-clause-turns g c =
    let some : 0 < c.args.tab = omega (arith, c.get-tab_size.ensures.least, c.get-tab_size.ensures.columns) in
    let columns = all_columns c.args.tab c.args.bytes.now some c.in_ok-rows.rows.items c.in_ok-rows.ensures.placed in
    let many = many_columns c.in_ok-rows.rows.items in
    let first = ap (λ (l : List RowAt). length l) c.as_slice.ensures.value in
    let second = ap columns_in c.as_slice-2.ensures.value in
    omega (arith, columns, many, first, c.rows_with_definitions.ensures.turns, c.aheads_of.ensures.turns, second, c.skeleton_by.ensures.turns)

pub returns-clause-turns : goal.returns-clause-turns
returns-clause-turns g c =
    let some : 0 < c.args.tab = omega (arith, c.get-tab_size.ensures.least, c.get-tab_size.ensures.columns) in
    let columns = all_columns c.args.tab c.args.bytes.now some c.in_ok-rows.rows.items c.in_ok-rows.ensures.placed in
    let many = many_columns c.in_ok-rows.rows.items in
    let first = ap (λ (l : List RowAt). length l) c.as_slice.ensures.value in
    let second = ap columns_in c.as_slice-2.ensures.value in
    omega (arith, columns, many, first, c.rows_with_definitions.ensures.turns, c.aheads_of.ensures.turns, second, c.skeleton_by.ensures.turns)
