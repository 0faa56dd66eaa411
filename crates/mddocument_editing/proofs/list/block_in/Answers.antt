use Rattle.std.proofs.Common.{◌<◌, ◌*◌, length, take, subst, sym, ◌∙◌, arith}
use Rattle.std.specs.List.{sum_by}
use Rattle.mddocument_editing.specs.Listed.{AreSums, block, size_of}
use Rattle.mddocument_editing.proofs.ListSums.{block-next, part-is, still-front, then-behind}
use Rattle.mddocument_editing.proofs.list.block_in.Goals as goal

pub loop-number-preserved : goal.loop-number-preserved
loop-number-preserved g c =
    let xs = c.args.sections.now in
    let i = c.loop-number.number in
    let p = c.args.is_line in
    let v = c.loop-number.invariant in
    let lt : i < length c.args.blocks.now = omega (arith, c.loop-number-test.true, c.requires.blocks.all) in
    let both = c.plus-front.ensures (take (256 * i) xs) (block i xs) v.sums (c.requires.blocks.each i _ lt) in
    let size = c.part-size.ensures ∙ part-is p (block i xs) _ (c.requires.blocks.each i _ lt) in
    record {
      within = omega (arith, c.loop-number-test.true);
      sums = subst (λ ys. AreSums ys c.plus-front.result) (sym (block-next xs i)) both;
      start = still-front p (take (256 * i) xs) (block i xs) c.loop-number.front c.part-size.result c.args.place v.sums v.start c.plus-front.result both (omega (arith, size)) c.ranges.place.fits
          (omega (arith, c.if-place-part.false, c.part.ensures));
      turns = omega (arith, v.turns, c.add_one.ensures);
    }

pub returns-then-place-part-clause-end : goal.returns-then-place-part-clause-end
returns-then-place-part-clause-end g c more =
    let xs = c.args.sections.now in
    let i = c.loop-number.number in
    let p = c.args.is_line in
    let v = c.loop-number.invariant in
    let lt : i < length c.args.blocks.now = omega (arith, c.loop-number-test.true, c.requires.blocks.all) in
    let size = c.part-size.ensures ∙ part-is p (block i xs) _ (c.requires.blocks.each i _ lt) in
    subst (λ ys. c.args.place < sum_by (size_of p) ys) (sym (block-next xs i))
    (then-behind p (take (256 * i) xs) (block i xs) c.loop-number.front c.part-size.result c.args.place v.sums v.start (omega (arith, size)) (omega (arith, c.if-place-part.true, c.part.ensures)))
