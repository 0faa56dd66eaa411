use Rattle.std.proofs.Common.{ap, arith, length}
use Rattle.mdblock_tables.proofs.CellLemmas.{contents_end, contents_step, is_next}
use Rattle.mdblock_tables.proofs.tables.count_cells.Goals as goal

pub loop-next-preserved : goal.loop-next-preserved
loop-next-preserved g c =
    let row = c.args.row.now in
    let next = c.loop-next.next in
    let size = c.cell_size-size.result in
    let at = is_next row next size _ (omega arith) c.behind.ensures.value c.cell_size-size.ensures.value c.cell_size-size.ensures.within in
    let step = ap length (contents_step row next size at) in
    (omega (arith, c.loop-next.invariant.0, step), omega (arith, c.cell_size-size.ensures.within, c.behind.ensures.len), omega (arith, c.loop-next.invariant.2), omega (arith, c.loop-next.invariant.3, c.add_one.ensures, c.cell_size-size.ensures.turns))

pub returns-clause-value : goal.returns-clause-value
returns-clause-value g c = let none = ap length (contents_end c.args.row.now c.loop-next.next (omega arith)) in omega (arith, c.loop-next.invariant.0, none)
