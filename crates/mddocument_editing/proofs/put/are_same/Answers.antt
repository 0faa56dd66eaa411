use Rattle.mddocument_editing.proofs.Prelude.{◌<◌, ◌≤◌, length, refl, sym, ◌∙◌, arith, take_all, take_more_same, get_or_from_slice_get}
use Rattle.mddocument_editing.proofs.put.are_same.Goals as goal

pub loop-index-preserved : goal.loop-index-preserved
loop-index-preserved c =
    let one = c.args.one.now in
    let other = c.args.other.now in
    let i = c.loop-index.index in
    let event = c.event-event.result in
    let lt : i < length one = omega (arith, c.loop-index-test.true, c.len-index-end.ensures) in
    let less : i < length other = omega (arith, lt, c.if-len.false, c.len.ensures, c.len-2.ensures) in
    take_more_same one other i event lt less c.loop-index.invariant
    (get_or_from_slice_get one i event event c.event-event.ensures.event ∙ c.is_same-same.ensures.0 c.if-not-same.false ∙ sym (get_or_from_slice_get other i c.event-like.result event c.event-like.ensures.event))

pub returns : goal.returns
returns c =
    let one = c.args.one.now in
    let other = c.args.other.now in
    let i = c.loop-index.index in
    let ge : length one ≤ i = omega (arith, c.loop-index-test.false, c.len-index-end.ensures) in
    let more : length other ≤ i = omega (arith, ge, c.if-len.false, c.len.ensures, c.len-2.ensures) in
    ((λ _. sym (take_all i one ge) ∙ c.loop-index.invariant ∙ take_all i other more), (λ _. refl))
