use Rattle.mddocument_editing.proofs.Prelude.{arith, Global, Vec, ℕ}
use Rattle.mddocument_editing.proofs.SectionSizes.{size-more}
use Rattle.mddocument_editing.proofs.recut.parts_with.Goals as goal

pub loop-count-preserved : goal.loop-count-preserved
loop-count-preserved c =
    let parts = c.args.parts.now in
    let i = c.loop-count.count in
    let more = size-more (λ (part : Vec ℕ Global). part.items) parts i c.index-parts-count.result (omega (arith, c.loop-count-test.true)) c.index-parts-count.is in
    omega (arith, more, c.loop-count.invariant, c.len-len.ensures, c.index-parts-count.result.ok.0)
