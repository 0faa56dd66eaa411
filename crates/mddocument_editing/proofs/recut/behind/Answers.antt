use Rattle.mddocument_editing.proofs.Prelude.{◌+◌, arith, bytes_of_sections}
use Rattle.mddocument_editing.proofs.SectionPlaces.{start-behind, start-within}
use Rattle.mddocument_editing.proofs.recut.behind.Goals as goal

pub overflow_add-at : goal.overflow_add-at
overflow_add-at c =
    let next = start-behind c.args.sections.now c.loop-index-test.true c.index-sections-index.is in
    omega (arith, next, start-within (c.loop-index.index + 1) (bytes_of_sections c.args.sections.now), c.requires.short, c.loop-index.invariant.at, c.len-at.ensures)

pub loop-index-preserved : goal.loop-index-preserved
loop-index-preserved c =
    let next = start-behind c.args.sections.now c.loop-index-test.true c.index-sections-index.is in
    record {
      at = omega (arith, next, c.loop-index.invariant.at, c.len-at.ensures);
      order = omega (arith, c.loop-index.invariant.order);
      within = omega (arith, c.loop-index-test.true);
    }
